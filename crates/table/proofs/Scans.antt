-- The scan of `poll_transmit` as its loop goes up the rows: what stands at the head of a turn, and a law for each way through it.
--     Stands                          the whole scan is what was passed, in front of the scan over the rest
--     begun                           before the first turn
--     rested, passed, went, ended     a request rests, passes silently or goes out; no request is left
use Rattle.std.specs.Prelude.{Option, None, Some}
use Prim.Native.Nat.{ℕ, ◌+◌, ◌*◌, ◌^◌, ◌≤◌, ◌<◌}
use mathlib.Core.Path.{◌≡◌, refl, sym, ap, ◌∙◌}
use mathlib.Core.List.{List, [], ◌∷◌, ◌++◌, append_assoc, append-nil}
use native.Mathlib.Numerals.{add-one}
use native.Mathlib.Omega.{arith}
use lib.ListN.{length, take, drop, set, drop_of_length-le}
use lib.Seq.{take_all, take-add, take-suc-set, drop-set-lt, set_split}
use Rattle.rows.specs.Rows.{row, rows, with_rows}
use Rattle.rows.proofs.Rows.{rows_next, length_rows, rows_put, length_put, drop_put, held}
use Rattle.waits.specs.declared.Transport.{Transport}
use Rattle.request.specs.Request.{transmit_of}
use Rattle.request.specs.Limits.{RequestLimits}
use Rattle.request.specs.declared.StunRequestState.{StunRequestState}
use Rattle.request.specs.declared.StunRequestTransmit.TheVariants.{Rests, Passes, Goes}
use Rattle.records.specs.Coding.{width, size, encode, decode, Put}
use Rattle.records.specs.Live.{live, Became}
use Rattle.records.proofs.Coding.{length_encode}
use Rattle.records.proofs.Live.{length_live, live_next, became_set}
use Rattle.requests.specs.Scan.{Walk, behind, walk_by, walk}
use Rattle.requests.specs.Formed.{AllWithin}
use Rattle.table.specs.Table.{walk_rows, Transmits}

-- ---- requests within their limits, of which x stands at place i
module _ (l : List StunRequestState) (i : ℕ) (x : StunRequestState) (e : drop i l ≡ x ∷ drop (i + 1) l) (rows mark : ℕ) (w : AllWithin rows mark (drop i l)) where
  within_here : RequestLimits rows mark x
  within_here = (rw e at w).0

  within_ahead : AllWithin rows mark (drop (i + 1) l)
  within_ahead = (rw e at w).1

-- ---- one place of any scan: x stands at place i of l
module _ {A : Type 0} (get : A → StunRequestState) (new : StunRequestState → A) (t : Transport) (now : ℕ) (l : List A) (i : ℕ) where
  -- the scan over the rest, with what was passed in front of it
  abbrev scanned : Walk A
  scanned = behind (take i l) (walk_by get new t now (drop i l))

  scan_ended : length l ≤ i → scanned ≡ record { out = None; after = l }
  scan_ended h = rw (drop_of_length-le l h, take_all i l h, append-nil)

  module _ (x : A) (e : drop i l ≡ x ∷ drop (i + 1) l) where
    one_more : take (i + 1) l ≡ take i l ++ (x ∷ [])
    one_more = take-add i 1 l ∙ rw e

    two : (a b : List A) (w : Walk A) → behind a (behind b w) ≡ behind (a ++ b) w
    two a b w = rw append_assoc

    scan_rests : transmit_of t now (get x) ≡ Rests → scanned ≡ behind (take (i + 1) l) (walk_by get new t now (drop (i + 1) l))
    scan_rests f = rw (e, f, one_more) (two (take i l) (x ∷ []) (walk_by get new t now (drop (i + 1) l)))

    module _ (p : StunRequestState) (h : i < length l) where
      scan_passes : transmit_of t now (get x) ≡ Passes p
          → scanned ≡ behind (take (i + 1) (set l i (new p))) (walk_by get new t now (drop (i + 1) (set l i (new p))))
      scan_passes f =
          let a : take (i + 1) (set l i (new p)) ≡ take i l ++ (new p ∷ []) = rw add-one (take-suc-set l i (new p) h) in
          let b : drop (i + 1) (set l i (new p)) ≡ drop (i + 1) l = drop-set-lt (i + 1) l i (new p) (omega arith) in
          rw (e, f, a, b) (two (take i l) (new p ∷ []) (walk_by get new t now (drop (i + 1) l)))

      scan_goes : transmit_of t now (get x) ≡ Goes p → scanned ≡ record { out = Some p; after = set l i (new p) }
      scan_goes f = rw (e, f, set_split l i (new p) h, ← add-one i)

-- ---- the scan over words: t₀ as they came, t as they stand at place i
pub record Stands (transport : Transport) (n clock : ℕ) (t₀ t : List ℕ) (i : ℕ) : Type 0 where
  pub inside : i ≤ n
  pub same_length : length t ≡ length t₀
  pub kept : drop (n * width) t ≡ drop (n * width) t₀
  pub ahead : AllWithin 32 (2 ^ 60) (drop i (live n t))
  pub by_rows : walk_rows transport clock (rows width n t₀) ≡ scanned decode encode transport clock (rows width n t) i
  pub by_requests : walk transport clock (live n t₀) ≡ scanned (λ r. r) (λ r. r) transport clock (live n t) i

module _ (transport : Transport) (n clock : ℕ) (t₀ : List ℕ) where
  pub begun : AllWithin 32 (2 ^ 60) (live n t₀) → Stands transport n clock t₀ t₀ 0
  begun w = record { inside = omega arith; same_length = refl; kept = refl; ahead = w; by_rows = refl; by_requests = refl }

  -- what the scan left: t are the words, l the rows and requests that the two readings of it give
  left : (t : List ℕ) (out : Option StunRequestState) (rs : List (List ℕ)) (l : List StunRequestState)
      → walk_rows transport clock (rows width n t₀) ≡ record { out = out; after = rs }
      → walk transport clock (live n t₀) ≡ record { out = out; after = l }
      → Became t₀ t n rs l
      → Transmits transport n clock t₀ out t
  left t out rs l e f b = record {
    says = ap (λ (w : Walk StunRequestState). w.out) (sym f);
    then = record {
      words = b.words ∙ ap (λ (w : Walk (List ℕ)). with_rows width t₀ w.after) (sym e);
      holds = b.holds ∙ ap (λ (w : Walk StunRequestState). w.after) (sym f);
    };
  }

  module _ (t : List ℕ) (i : ℕ) (s : Stands transport n clock t₀ t i) where
    pub ended : n ≤ i → Transmits transport n clock t₀ None t
    ended h =
        left t None (rows width n t) (live n t)
        (s.by_rows ∙ scan_ended decode encode transport clock (rows width n t) i (rw (length_rows width n t) h))
        (s.by_requests ∙ scan_ended (λ r. r) (λ r. r) transport clock (live n t) i (rw (length_live n t) h))
        record { words = held width n t₀ t (rows width n t) refl s.kept; holds = refl }

    module _ (h : i < n) where
      pub here : RequestLimits 32 (2 ^ 60) (decode (row width t i))
      here = within_here (live n t) i (decode (row width t i)) (live_next n i t h) 32 (2 ^ 60) s.ahead

      pub rested : transmit_of transport clock (decode (row width t i)) ≡ Rests → Stands transport n clock t₀ t (i + 1)
      rested f = record {
        inside = omega arith;
        same_length = s.same_length;
        kept = s.kept;
        ahead = within_ahead (live n t) i (decode (row width t i)) (live_next n i t h) 32 (2 ^ 60) s.ahead;
        by_rows = s.by_rows ∙ scan_rests decode encode transport clock (rows width n t) i (row width t i) (rows_next width n i t h) f;
        by_requests = s.by_requests ∙ scan_rests (λ r. r) (λ r. r) transport clock (live n t) i (decode (row width t i)) (live_next n i t h) f;
      }

      -- a row written
      module _ (m : n ≤ 32) (z : size ≤ length t₀) (t' : List ℕ) (p : StunRequestState) (put : Put t t' i p) where
        fits : n * width ≤ length t
        fits = let e = s.same_length in omega arith

        set_row : Became t t' n (set (rows width n t) i (encode p)) (set (live n t) i p)
        set_row = became_set n t t' fits i p h put

        rows_after_lem : rows width n t' ≡ set (rows width n t) i (encode p)
        rows_after_lem = ap (rows width n) put.words ∙ rows_put width n i t (encode p) (length_encode p) h fits

        room : i * width + length (encode p) ≤ n * width
        room = rw (length_encode p) (omega arith)

        kept_after : drop (n * width) t' ≡ drop (n * width) t₀
        kept_after =
            let k = room in
            let f = fits in
            ap (drop (n * width)) put.words ∙ drop_put t (i * width) (encode p) (omega arith) (n * width) k ∙ s.kept

        length_after : length t' ≡ length t₀
        length_after =
            let k = room in
            let f = fits in
            ap length put.words ∙ length_put t (i * width) (encode p) (omega arith) ∙ s.same_length

        pub passed : transmit_of transport clock (decode (row width t i)) ≡ Passes p → Stands transport n clock t₀ t' (i + 1)
        passed f = record {
          inside = omega arith;
          same_length = length_after;
          kept = kept_after;
          ahead =
              rw (set_row.holds, drop-set-lt (i + 1) (live n t) i p (omega arith))
              (within_ahead (live n t) i (decode (row width t i)) (live_next n i t h) 32 (2 ^ 60) s.ahead);
          by_rows =
              s.by_rows
              ∙ rw rows_after_lem (scan_passes decode encode transport clock (rows width n t) i (row width t i) (rows_next width n i t h) p (rw (length_rows width n t) h) f);
          by_requests =
              s.by_requests
              ∙ rw set_row.holds (scan_passes (λ r. r) (λ r. r) transport clock (live n t) i (decode (row width t i)) (live_next n i t h) p (rw (length_live n t) h) f);
        }

        pub went : transmit_of transport clock (decode (row width t i)) ≡ Goes p → Transmits transport n clock t₀ (Some p) t'
        went f =
            left t' (Some p) (set (rows width n t) i (encode p)) (set (live n t) i p)
            (s.by_rows ∙ scan_goes decode encode transport clock (rows width n t) i (row width t i) (rows_next width n i t h) p (rw (length_rows width n t) h) f)
            (s.by_requests ∙ scan_goes (λ r. r) (λ r. r) transport clock (live n t) i (decode (row width t i)) (live_next n i t h) p (rw (length_live n t) h) f)
            record { words = held width n t₀ t' (set (rows width n t) i (encode p)) rows_after_lem kept_after; holds = set_row.holds }
