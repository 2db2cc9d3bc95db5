-- Words as rows, for rows of any width w and lists of any length.
--     rows_next, length_rows, joined_rows    the rows one by one, how many, and put together again
--     row_word                               a word of a row
--     part_row, mid_put                      a part of a slice as a row, and a part that was written
--     rows_put, drop_put, length_put         one row written
--     put_put, sets_put                      stores side by side are one
--     held                                   words from the rows that they hold and what is behind
--     rows_with                              the rows of words that were made of rows
--     wide_rows, wide_insert, wide_remove    rows that have w words each
use Prim.Native.Nat.{ℕ, zero, suc, ◌+◌, ◌-◌, ◌*◌, ◌≤◌, ◌<◌}
use mathlib.Core.Path.{◌≡◌, refl, sym, ap, ◌∙◌}
use mathlib.Core.List.{List, [], ◌∷◌, ◌++◌, append_assoc}
use native.Mathlib.Nat.{le_of_suc-le-suc, not-suc-le-zero, zero-add, zero-mul, suc-mul, add_comm, add_assoc, add-zero, mul-le-mul_right}
use native.Mathlib.Numerals.{add-one}
use native.Mathlib.Omega.{arith}
use lib.ListN.{length, take, drop, get_or, set, length-append, length-drop, take-append-drop}
use lib.Seq.{get_or-take, get_or-drop, take-add, drop-drop, take_at, drop_at, drop-append-le, length-take-le, take-take, sets, sets-eq}
use borrow.Rule.Slice.PartMut.{put_mid}
use Rattle.rows.proofs.Lists.{slice_drop}
use Rattle.rows.specs.Lists.{insert_at, remove_at}
use Rattle.rows.specs.Rows.{row, rows, joined, put_at, with_rows}

-- ---- a part of a slice
pub part_row : (w : ℕ) (t : List ℕ) (i : ℕ) → take w (drop (i * w) t) ≡ row w t i
unfolding row
part_row w t i = refl

-- ---- writing
pub mid_put : (t : List ℕ) (b k : ℕ) (ws : List ℕ) → k ≡ length ws → put_mid b k t ws ≡ put_at t b ws
unfolding put_at
mid_put t b k ws e = rw (e, drop-drop (length ws) b t, append_assoc)

module _ (t : List ℕ) (b : ℕ) (ws : List ℕ) (h : b + length ws ≤ length t) where
  front : length (take b t) ≡ b
  front = length-take-le b t (omega arith)

  both_fronts : length (take b t ++ ws) ≡ b + length ws
  both_fronts = rw (length-append, front)

  pub length_put : length (put_at t b ws) ≡ length t
  unfolding put_at
  length_put = rw (length-append, both_fronts, length-drop) (omega arith)

  pub drop_put : (m : ℕ) → b + length ws ≤ m → drop m (put_at t b ws) ≡ drop m t
  unfolding put_at
  drop_put m k =
      let e : m ≡ b + length ws + (m - (b + length ws)) = omega arith in
      let d = m - (b + length ws) in
      rw (e, ← drop-drop d (b + length ws) (take b t ++ ws ++ drop (b + length ws) t), drop_at (take b t ++ ws) (drop (b + length ws) t) _ both_fronts)
      (drop-drop d (b + length ws) t)

  pub take_put : take b (put_at t b ws) ≡ take b t
  unfolding put_at
  take_put = rw (append_assoc (take b t) ws (drop (b + length ws) t)) (take_at (take b t) _ b front)

  pub take_put_le : (m : ℕ) → m ≤ b → take m (put_at t b ws) ≡ take m t
  take_put_le m k = sym (take-take m b (put_at t b ws) k) ∙ ap (take m) take_put ∙ take-take m b t k

  -- two stores side by side are one
  pub put_put : (vs : List ℕ) → put_at (put_at t b ws) (b + length ws) vs ≡ put_at t b (ws ++ vs)
  unfolding put_at
  put_put vs =
      rw (take_at (take b t ++ ws) (drop (b + length ws) t) _ both_fronts, drop_put (b + length ws + length vs) (omega arith), append_assoc (take b t) ws vs, length-append ws vs, add_assoc b (length ws) (length vs))

-- a store behind another's words
pub put_more : (t t₁ t₂ : List ℕ) (b : ℕ) (ws vs : List ℕ) → b + length ws ≤ length t → t₁ ≡ put_at t b ws → t₂ ≡ put_at t₁ (b + length ws) vs → t₂ ≡ put_at t b (ws ++ vs)
put_more t t₁ t₂ b ws vs h e f = f ∙ ap (λ (l : List ℕ). put_at l (b + length ws) vs) e ∙ put_put t b ws h vs

-- stores one behind the other, as many as there are
pub sets_put : (t : List ℕ) (b : ℕ) (ws : List ℕ) → b + length ws ≤ length t → sets t b ws ≡ put_at t b ws
unfolding put_at
sets_put t b ws h = sets-eq ws t b h

put_zero : (t ws : List ℕ) → put_at t 0 ws ≡ ws ++ drop (length ws) t
unfolding put_at
put_zero t ws = rw (zero-add (length ws))

-- a store behind the first a words
put_behind : (a b : ℕ) (t ws : List ℕ) → a + b ≤ length t → drop a (put_at t (a + b) ws) ≡ put_at (drop a t) b ws
unfolding put_at
put_behind a b t ws h =
    let p : length (take (a + b) t) ≡ a + b = length-take-le (a + b) t h in
    let q : a ≤ length (take (a + b) t) = omega arith in
    let r : a ≤ length (take (a + b) t ++ ws) = rw length-append (omega arith) in
    let s : take b (drop a t) ≡ drop a (take (a + b) t) = slice_drop a 0 b t ∙ rw (add-zero a) in
    rw (drop-append-le a (take (a + b) t ++ ws) (drop (a + b + length ws) t) r, drop-append-le a (take (a + b) t) ws q, s, drop-drop (b + length ws) a t, add_assoc a b (length ws))

module _ (w : ℕ) where
  -- ---- the rows one by one
  row_zero : (t : List ℕ) → row w t zero ≡ take w t
  unfolding row
  row_zero t = rw zero-mul

  row_suc : (t : List ℕ) (i : ℕ) → row w (drop w t) i ≡ row w t (suc i)
  unfolding row
  row_suc t i = rw (drop-drop (i * w) w t, suc-mul i w, add_comm w (i * w))

  next : (n i : ℕ) (t : List ℕ) → i < n → drop i (rows w n t) ≡ row w t i ∷ drop (suc i) (rows w n t)
  next zero i t h = absurd (not-suc-le-zero h)
  next (suc n) zero t h = rw (row_zero t)
  next (suc n) (suc i) t h = rw (← row_suc t i) (next n i (drop w t) (le_of_suc-le-suc h))

  pub rows_next : (n i : ℕ) (t : List ℕ) → i < n → drop i (rows w n t) ≡ row w t i ∷ drop (i + 1) (rows w n t)
  rows_next n i t h = rw add-one (next n i t h)

  pub row_word : (t : List ℕ) (i k d : ℕ) → k < w → get_or (row w t i) k d ≡ get_or t (i * w + k) d
  unfolding row
  row_word t i k d h = get_or-take w (drop (i * w) t) k d h ∙ get_or-drop (i * w) t k d

  pub length_rows : (n : ℕ) (t : List ℕ) → length (rows w n t) ≡ n
  length_rows zero t = refl
  length_rows (suc n) t = ap suc (length_rows n (drop w t))

  pub joined_rows : (n : ℕ) (t : List ℕ) → joined (rows w n t) ≡ take (n * w) t
  joined_rows zero t = rw zero-mul
  joined_rows (suc n) t = rw (joined_rows n (drop w t), ← take-add w (n * w) t, suc-mul n w, add_comm w (n * w))

  -- ---- one row written
  pub rows_put : (n i : ℕ) (t ws : List ℕ) → length ws ≡ w → i < n → n * w ≤ length t → rows w n (put_at t (i * w) ws) ≡ set (rows w n t) i ws
  rows_put zero i t ws e h k = absurd (not-suc-le-zero h)
  rows_put (suc n) zero t ws e h k =
      rw (zero-mul, put_zero t ws, take_at ws (drop (length ws) t) w e, drop_at ws (drop (length ws) t) w e, e)
  rows_put (suc n) (suc i) t ws e h k =
      let a : suc n * w ≡ n * w + w = suc-mul n w in
      let c : suc i * w ≤ n * w = mul-le-mul_right w (le_of_suc-le-suc h) in
      let d : suc i * w ≡ w + i * w = suc-mul i w ∙ add_comm (i * w) w in
      let k₁ : suc i * w + length ws ≤ length t = omega arith in
      let k₂ : n * w ≤ length (drop w t) = rw length-drop (omega arith) in
      rw (take_put_le t (suc i * w) ws k₁ w (omega arith), d, put_behind w (i * w) t ws (omega arith))
      (ap (λ (r : List (List ℕ)). take w t ∷ r) (rows_put n i (drop w t) ws e (le_of_suc-le-suc h) k₂))

  -- ---- words from the rows that they hold and what is behind
  pub held : (n : ℕ) (t t' : List ℕ) (rs : List (List ℕ)) → rows w n t' ≡ rs → drop (n * w) t' ≡ drop (n * w) t → t' ≡ with_rows w t rs
  unfolding with_rows
  held n t t' rs e f = rw (← e, joined_rows n t', length_rows n t', ← f) (sym (take-append-drop (n * w) t'))

  -- ---- rows that have w words each
  abbrev pub Wide : List (List ℕ) → Type 0
  Wide [] = Unit
  Wide (x ∷ xs) = (length x ≡ w) × Wide xs

  pub wide_rows : (n : ℕ) (t : List ℕ) → n * w ≤ length t → Wide (rows w n t)
  wide_rows zero t h = tt
  wide_rows (suc n) t h =
      let k : n * w + w ≤ length t = rw suc-mul at h in
      (length-take-le w t (omega arith), wide_rows n (drop w t) (rw length-drop (omega arith)))

  pub wide_insert : (rs : List (List ℕ)) (i : ℕ) (x : List ℕ) → Wide rs → length x ≡ w → Wide (insert_at rs i x)
  wide_insert rs zero x v e = (e, v)
  wide_insert [] (suc i) x v e = (e, v)
  wide_insert (y ∷ rs) (suc i) x v e = (v.0, wide_insert rs i x v.1 e)

  pub wide_remove : (rs : List (List ℕ)) (i : ℕ) → Wide rs → Wide (remove_at rs i)
  wide_remove [] i v = v
  wide_remove (y ∷ rs) zero v = v.1
  wide_remove (y ∷ rs) (suc i) v = (v.0, wide_remove rs i v.1)

  joined_back : (rs : List (List ℕ)) (z : List ℕ) → Wide rs → rows w (length rs) (joined rs ++ z) ≡ rs
  joined_back [] z v = refl
  joined_back (x ∷ rs) z v =
      rw (append_assoc x (joined rs) z, take_at x (joined rs ++ z) w v.0, drop_at x (joined rs ++ z) w v.0)
      (ap (λ (r : List (List ℕ)). x ∷ r) (joined_back rs z v.1))

  pub rows_with : (n : ℕ) (t : List ℕ) (rs : List (List ℕ)) → Wide rs → length rs ≡ n → rows w n (with_rows w t rs) ≡ rs
  unfolding with_rows
  rows_with n t rs v e = rw (← e) (joined_back rs _ v)
