-- The loops that open and close a gap of w words, on lists of any length: t is the table as it came.
--     opened, opened_none, open_turn      the gap below place k, of a table whose words before e move up
--     closed, closed_none, close_turn     the gap at place a, closed up to place k
--     open_filled, close_ended            what the loop leaves, as rows
use Prim.Native.Nat.{ℕ, zero, suc, ◌+◌, ◌-◌, ◌*◌, ◌≤◌, ◌<◌}
use mathlib.Core.Path.{◌≡◌, sym, ap, ◌∙◌}
use mathlib.Core.List.{List, [], ◌∷◌, ◌++◌, append_assoc, append-nil}
use native.Mathlib.Nat.{le_of_suc-le-suc, not-suc-le-zero, suc-add, zero-mul, suc-mul, add_comm, mul-le-mul_right}
use native.Mathlib.Numerals.{add-one, sub-one}
use native.Mathlib.Omega.{arith}
use lib.ListN.{length, take, drop, get_or, set, length-append, take-append-drop, get_or-append}
use lib.Seq.{slice, slice_empty, slice-cons, take-add, take-suc, drop_at, set_at, drop-cons, append_snoc, get_or-take, get_or-drop, get_or-append-add, length-take-le, length-slice, take-append-le, take-take}
use Rattle.rows.specs.Lists.{insert_at, remove_at}
use Rattle.rows.specs.Rows.{rows, joined, put_at, with_rows}
use Rattle.rows.proofs.Lists.{slice_drop, slice_snoc, length_insert_at, length_remove_at}
use Rattle.rows.proofs.Rows.{length_rows, joined_rows}

-- ---- rows put together after an insertion and a removal
module _ (w : ℕ) where
  take_row : (a : ℕ) (t : List ℕ) → take w t ++ take (a * w) (drop w t) ≡ take (suc a * w) t
  take_row a t = rw (← take-add w (a * w) t, suc-mul a w, add_comm w (a * w))

  slice_row : (a b : ℕ) (t : List ℕ) → slice (a * w) (b * w) (drop w t) ≡ slice (suc a * w) (suc b * w) t
  slice_row a b t = slice_drop w (a * w) (b * w) t ∙ rw (suc-mul a w, suc-mul b w, add_comm w (a * w), add_comm w (b * w))

  joined_insert : (n at : ℕ) (t ws : List ℕ) → at ≤ n → joined (insert_at (rows w n t) at ws) ≡ take (at * w) t ++ ws ++ slice (at * w) (n * w) t
  joined_insert n zero t ws h = rw (zero-mul, joined_rows w n t)
  joined_insert zero (suc at) t ws h = absurd (not-suc-le-zero h)
  joined_insert (suc n) (suc at) t ws h =
      rw (joined_insert n at (drop w t) ws (le_of_suc-le-suc h), slice_row at n t, ← append_assoc (take w t) (take (at * w) (drop w t) ++ ws) (slice (suc at * w) (suc n * w) t), ← append_assoc (take w t) (take (at * w) (drop w t)) ws, take_row at t)

  joined_remove : (n at : ℕ) (t : List ℕ) → at < n → joined (remove_at (rows w n t) at) ≡ take (at * w) t ++ slice (suc at * w) (n * w) t
  joined_remove zero at t h = absurd (not-suc-le-zero h)
  joined_remove (suc n) zero t h =
      let e : take (n * w) (drop w t) ≡ slice (suc zero * w) (suc n * w) t = ap (λ (x : ℕ). slice x (n * w) (drop w t)) (sym (zero-mul w)) ∙ slice_row zero n t in
      rw (joined_rows w n (drop w t), e, zero-mul w)
  joined_remove (suc n) (suc at) t h =
      rw (joined_remove n at (drop w t) (le_of_suc-le-suc h), slice_row (suc at) n t, ← append_assoc (take w t) (take (at * w) (drop w t)) (slice (suc (suc at) * w) (suc n * w) t), take_row at t)

-- ---- opening
module _ (w e : ℕ) (t : List ℕ) where
  -- the words from k up to e stand w places further up
  abbrev pub opened : ℕ → List ℕ
  opened k = take (k + w) t ++ (slice k e t ++ drop (e + w) t)

  pub opened_none : t ≡ opened e
  opened_none = rw (slice_empty e t) (sym (take-append-drop (e + w) t))

  open_more : e + w ≤ length t → (k : ℕ) → k < e → set (opened (suc k)) (k + w) (get_or (opened (suc k)) k 0) ≡ opened k
  open_more fits k h =
      let P : List ℕ = take (k + w) t in
      let x : ℕ = get_or t (k + w) 0 in
      let v : ℕ = get_or t k 0 in
      let R : List ℕ = slice (suc k) e t ++ drop (e + w) t in
      let m : length (take (suc k + w) t) ≡ suc k + w = length-take-le (suc k + w) t (omega arith) in
      let c : opened (suc k) ≡ P ++ x ∷ R = rw (suc-add k w, take-suc t (k + w) 0 (omega arith)) (append_snoc P x R) in
      ap (λ (y : ℕ). set (opened (suc k)) (k + w) y) (get_or-append (take (suc k + w) t) R 0 k (omega arith) ∙ get_or-take (suc k + w) t k 0 (omega arith))
      ∙ ap (λ (l : List ℕ). set l (k + w) v) c
      ∙ set_at P x R v (k + w) (length-take-le (k + w) t (omega arith))
      ∙ rw (slice-cons k e t 0 h (omega arith))

  -- one turn: the word below k is copied up
  pub open_turn : e + w ≤ length t → (l : List ℕ) (k : ℕ) → 0 < k → k ≤ e → l ≡ opened k → set l (k - 1 + w) (get_or l (k - 1) 0) ≡ opened (k - 1)
  open_turn fits l zero p h q = absurd (not-suc-le-zero p)
  open_turn fits l (suc k) p h q = rw (q, sub-one) (open_more fits k h)

-- ---- closing
module _ (w a : ℕ) (t : List ℕ) where
  -- the words from a + w up to k + w stand w places further down
  abbrev pub closed : ℕ → List ℕ
  closed k = take a t ++ slice (a + w) (k + w) t ++ drop k t

  pub closed_none : t ≡ closed a
  closed_none = rw (slice_empty (a + w) t, append-nil) (sym (take-append-drop a t))

  close_more : (k : ℕ) → a ≤ k → k + w < length t → set (closed k) k (get_or (closed k) (k + w) 0) ≡ closed (suc k)
  close_more k h m =
      let S : List ℕ = slice (a + w) (k + w) t in
      let L : List ℕ = take a t ++ S in
      let v : ℕ = get_or t (k + w) 0 in
      let D : List ℕ = drop (suc k) t in
      let p : length L ≡ k = rw (length-append, length-take-le a t (omega arith), length-slice (a + w) (k + w) t (omega arith)) (omega arith) in
      let g : get_or (L ++ drop k t) (k + w) 0 ≡ v = ap (λ (j : ℕ). get_or (L ++ drop k t) (j + w) 0) (sym p) ∙ get_or-append-add L (drop k t) w 0 ∙ get_or-drop k t w 0 in
      ap (λ (y : ℕ). set (closed k) k y) g
      ∙ ap (λ (l : List ℕ). set (L ++ l) k v) (drop-cons t k 0 (omega arith))
      ∙ set_at L (get_or t k 0) D v k p
      ∙ sym (append_snoc L v D)
      ∙ rw (suc-add k w, slice_snoc (a + w) (k + w) t 0 (omega arith) m, append_assoc (take a t) S (v ∷ []))

  -- one turn: the word above the gap is copied down
  pub close_turn : (l : List ℕ) (k : ℕ) → a ≤ k → k + w < length t → l ≡ closed k → set l k (get_or l (k + w) 0) ≡ closed (k + 1)
  close_turn l k h m q = rw (q, add-one k) (close_more k h m)

-- ---- what the loops leave, as rows
pub open_filled : (w n at : ℕ) (t ws : List ℕ) → n * w + w ≤ length t → length ws ≡ w → at ≤ n → put_at (opened w (n * w) t (at * w)) (at * w) ws ≡ with_rows w t (insert_at (rows w n t) at ws)
unfolding put_at with_rows
open_filled w n at t ws fits p h =
    let a : ℕ = at * w in
    let m : a ≤ n * w = mul-le-mul_right w h in
    let R : List ℕ = slice a (n * w) t ++ drop (n * w + w) t in
    let q : length (take (a + w) t) ≡ a + w = length-take-le (a + w) t (omega arith) in
    let r : length (insert_at (rows w n t) at ws) * w ≡ n * w + w = rw (length_insert_at (rows w n t) at ws, length_rows w n t) (suc-mul n w) in
    ap (λ (l : List ℕ). l ++ ws ++ drop (a + length ws) (take (a + w) t ++ R)) (take-append-le a (take (a + w) t) R (omega arith) ∙ take-take a (a + w) t (omega arith))
    ∙ rw (p, drop_at (take (a + w) t) R (a + w) q, r, joined_insert w n at t ws h)
    (sym (append_assoc (take a t ++ ws) (slice a (n * w) t) (drop (n * w + w) t)))

pub close_ended : (w n at : ℕ) (t : List ℕ) → at < n → closed w (at * w) t (n * w - w) ≡ with_rows w t (remove_at (rows w n t) at)
unfolding with_rows
close_ended w zero at t h = absurd (not-suc-le-zero h)
close_ended w (suc n) at t h =
    let p : suc n * w ≡ n * w + w = suc-mul n w in
    let q : suc n * w - w ≡ n * w = omega arith in
    let l : suc at ≤ length (rows w (suc n) t) = rw (length_rows w (suc n) t) h in
    let r : suc (length (remove_at (rows w (suc n) t) at)) ≡ suc n = length_remove_at (rows w (suc n) t) at l ∙ length_rows w (suc n) t in
    let s : length (remove_at (rows w (suc n) t) at) ≡ n = omega arith in
    rw (q, s, joined_remove w (suc n) at t h, p, suc-mul at w)
