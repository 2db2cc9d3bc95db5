-- The requests that words hold, as a loop goes up them and as a call changes them.
--     live_next, live_end, length_live              the requests one by one, and how many
--     became_insert, became_remove, became_set      a row put in, taken out or written
--     one_outcome                                   at most one outcome meets `Became`
use Prim.Native.Nat.{ℕ, suc, ◌+◌, ◌-◌, ◌*◌, ◌≤◌, ◌<◌}
use mathlib.Core.Path.{◌≡◌, sym, ap, ◌∙◌}
use mathlib.Core.List.{List, [], ◌∷◌, map}
use native.Mathlib.Omega.{arith}
use native.Mathlib.Numerals.{add-one}
use lib.ListN.{length, drop, set, length-map, drop_of_length-le}
use Rattle.rows.specs.Lists.{insert_at, remove_at}
use Rattle.rows.specs.Rows.{row, rows, with_rows}
use Rattle.rows.proofs.Lists.{length_insert_at, length_remove_at, map_insert_at, map_remove_at, map_set, drop_map}
use Rattle.rows.proofs.Rows.{Wide, rows_next, length_rows, rows_with, rows_put, drop_put, wide_rows, wide_insert, wide_remove, held}
use Rattle.records.specs.Coding.{width, encode, decode, Put}
use Rattle.records.specs.Live.{live, Became}
use Rattle.records.proofs.Coding.{length_encode}
use Rattle.request.specs.declared.StunRequestState.{StunRequestState}

pub length_live : (n : ℕ) (t : List ℕ) → length (live n t) ≡ n
length_live n t = length-map (rows width n t) decode ∙ length_rows width n t

-- the request in row i, and those behind it
pub live_next : (n i : ℕ) (t : List ℕ) → i < n → drop i (live n t) ≡ decode (row width t i) ∷ drop (i + 1) (live n t)
live_next n i t h =
    drop_map decode i (rows width n t)
    ∙ ap (map decode) (rows_next width n i t h)
    ∙ ap (λ (l : List StunRequestState). decode (row width t i) ∷ l) (sym (drop_map decode (i + 1) (rows width n t)))

pub live_end : (n i : ℕ) (t : List ℕ) → n ≤ i → drop i (live n t) ≡ []
live_end n i t h = drop_of_length-le (live n t) {i = i} (rw (length_live n t) h)

-- words that hold rows of full width hold their requests
live_with : (n : ℕ) (t t' : List ℕ) (rs : List (List ℕ)) → Wide width rs → length rs ≡ n → t' ≡ with_rows width t rs → live n t' ≡ map decode rs
live_with n t t' rs v e p = ap (live n) p ∙ ap (map decode) (rows_with width n t rs v e)

module _ (n : ℕ) (t t' : List ℕ) (fits : n * width ≤ length t) where
  pub became_insert : (at : ℕ) (r : StunRequestState) → decode (encode r) ≡ r → t' ≡ with_rows width t (insert_at (rows width n t) at (encode r))
      → Became t t' (n + 1) (insert_at (rows width n t) at (encode r)) (insert_at (live n t) at r)
  became_insert at r back p =
      let rs : List (List ℕ) = insert_at (rows width n t) at (encode r) in
      let v : Wide width rs = wide_insert width (rows width n t) at (encode r) (wide_rows width n t fits) (length_encode r) in
      let e : length rs ≡ n + 1 = length_insert_at (rows width n t) at (encode r) ∙ ap suc (length_rows width n t) ∙ sym (add-one n) in
      record {
        words = p;
        holds = live_with (n + 1) t t' rs v e p ∙ map_insert_at decode (rows width n t) at (encode r) ∙ ap (insert_at (live n t) at) back;
      }

  pub became_remove : (at : ℕ) → at < n → t' ≡ with_rows width t (remove_at (rows width n t) at)
      → Became t t' (n - 1) (remove_at (rows width n t) at) (remove_at (live n t) at)
  became_remove at h p =
      let rs : List (List ℕ) = remove_at (rows width n t) at in
      let v : Wide width rs = wide_remove width (rows width n t) at (wide_rows width n t fits) in
      let k : at < length (rows width n t) = rw (length_rows width n t) h in
      let s : suc (length rs) ≡ n = length_remove_at (rows width n t) at k ∙ length_rows width n t in
      let e : length rs ≡ n - 1 = omega arith in
      record { words = p; holds = live_with (n - 1) t t' rs v e p ∙ map_remove_at decode (rows width n t) at }

  -- one row written, as `put` writes it
  pub became_set : (i : ℕ) (r : StunRequestState) → i < n → Put t t' i r → Became t t' n (set (rows width n t) i (encode r)) (set (live n t) i r)
  became_set i r h p =
      let k : i * width + length (encode r) ≤ n * width = rw (length_encode r) (omega arith) in
      let e : rows width n t' ≡ set (rows width n t) i (encode r) = ap (rows width n) p.words ∙ rows_put width n i t (encode r) (length_encode r) h fits in
      let b : drop (n * width) t' ≡ drop (n * width) t = ap (drop (n * width)) p.words ∙ drop_put t (i * width) (encode r) (omega arith) (n * width) k in
      record {
        words = held width n t t' (set (rows width n t) i (encode r)) e b;
        holds = ap (map decode) e ∙ map_set decode (rows width n t) i (encode r) ∙ ap (set (live n t) i) p.back;
      }

pub one_outcome : {t t' t'' : List ℕ} {n : ℕ} {rs : List (List ℕ)} {l : List StunRequestState} → Became t t' n rs l → Became t t'' n rs l → t' ≡ t''
one_outcome a b = a.words ∙ sym b.words
