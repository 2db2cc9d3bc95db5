-- What a copy does to the rows, whatever their number: the row holds the bytes, and every other row is as it was.
--     is_part, in_store_lem    where a row and a length are the store's
--     part_copied          the part of the row written is the message
--     part_other           the part of any other row is what it was
--     byte_kept            and so is every byte that the copy doesn't cover
--     length_copied, length_part    the lengths
use mathlib.Core.Path.{◌≡◌, refl, sym, ap, ◌∙◌}
use mathlib.Core.Logic.{◌⊎◌, inl, inr, ⊎_elim}
use mathlib.Core.Bool.{Bool, true, false, cond, and-eq-true_iff}
use mathlib.Core.List.{List, [], ◌++◌, append_assoc}
use Prim.Native.Nat.{ℕ, ◌+◌, ◌-◌, ◌*◌, ◌≤◌, ◌<◌}
use native.Mathlib.Omega.{arith}
use lib.ListN.{length, take, drop, get_or, length-append, length-drop, get_or-append}
use lib.Seq.{take-take, take_at, drop_at, drop-drop, length-take-le, get_or-take, get_or-drop}
use Rattle.std.proofs.lemmas.Bool.{cases_lt}
use Rattle.std.proofs.lemmas.List.{drop-take}
use borrow.Author.Tests.{lt-ltb, le-leb, ltb-true, leb-true}
use Rattle.store.specs.Rows.{in_store, stored, copied, part_of}

-- A part that ends within the first m elements is a part of those.
within : (n len m : ℕ) (l : List ℕ) → n + len ≤ m → take len (drop n (take m l)) ≡ take len (drop n l)
within n len m l h =
    let e : m ≡ n + (m - n) = omega arith in
    rw (e, drop-take n (m - n) l) (take-take len (m - n) (drop n l) (omega arith))

module _ (store : List ℕ) (row : ℕ) (bytes : List ℕ) (fits : row * 1024 + length bytes ≤ length store) where
  head_length : length (take (row * 1024) store) ≡ row * 1024
  head_length = length-take-le (row * 1024) store (omega arith)

  before : take (row * 1024) (stored store row bytes) ≡ take (row * 1024) store
  unfolding stored
  before = take_at _ _ _ head_length

  behind : drop (row * 1024 + length bytes) (stored store row bytes) ≡ drop (row * 1024 + length bytes) store
  unfolding stored
  behind =
      rw (← append_assoc)
      (drop_at (take (row * 1024) store ++ bytes) (drop (row * 1024 + length bytes) store) (row * 1024 + length bytes)
      (simp (length-append, head_length)))

  same_length : length (stored store row bytes) ≡ length store
  unfolding stored
  same_length = simp (length-append, length-drop, head_length) (omega arith)

  holds : take (length bytes) (drop (row * 1024) (stored store row bytes)) ≡ bytes
  unfolding stored
  holds = rw (drop_at (take (row * 1024) store) _ _ head_length) (take_at bytes _ _ refl)

  earlier : (k len : ℕ) → k * 1024 + len ≤ row * 1024 → take len (drop (k * 1024) (stored store row bytes)) ≡ take len (drop (k * 1024) store)
  earlier k len h =
      sym (within (k * 1024) len (row * 1024) (stored store row bytes) h)
      ∙ ap (λ (l : List ℕ). take len (drop (k * 1024) l)) before
      ∙ within (k * 1024) len (row * 1024) store h

  later : (k len : ℕ) → row * 1024 + length bytes ≤ k * 1024 → take len (drop (k * 1024) (stored store row bytes)) ≡ take len (drop (k * 1024) store)
  later k len h =
      let e = row * 1024 + length bytes in
      let gap : k * 1024 ≡ e + (k * 1024 - e) = omega arith in
      rw (gap, ← drop-drop (k * 1024 - e) e (stored store row bytes), ← drop-drop (k * 1024 - e) e store, behind)

  byte_before : (i : ℕ) → i < row * 1024 → get_or (stored store row bytes) i 0 ≡ get_or store i 0
  unfolding stored
  byte_before i h =
      let k : i < length (take (row * 1024) store) = omega (arith, head_length) in
      get_or-append (take (row * 1024) store) (bytes ++ drop (row * 1024 + length bytes) store) 0 i k ∙ get_or-take (row * 1024) store i 0 h

  byte_behind : (i : ℕ) → row * 1024 + length bytes ≤ i → get_or (stored store row bytes) i 0 ≡ get_or store i 0
  byte_behind i h =
      let e = row * 1024 + length bytes in
      let j = i - e in
      let b : e + j ≡ i = omega arith in
      ap (λ (n : ℕ). get_or (stored store row bytes) n 0) (sym b) ∙ sym (get_or-drop e (stored store row bytes) j 0)
      ∙ ap (λ (l : List ℕ). get_or l j 0) behind ∙ get_or-drop e store j 0 ∙ ap (λ (n : ℕ). get_or store n 0) b

pub record IsPart (rows : ℕ) (store : List ℕ) (row len : ℕ) : Type 0 where
  pub is_row : row < rows
  pub room : len ≤ 1024
  pub whole : rows * 1024 ≤ length store

module _ (rows : ℕ) (store : List ℕ) (row len : ℕ) where
  pub is_part : in_store rows store row len ≡ true → IsPart rows store row len
  unfolding in_store
  is_part e =
      let a = (and-eq-true_iff _ _).0 e in
      let b = (and-eq-true_iff _ _).0 a.1 in
      record { is_row = ltb-true _ _ a.0; room = leb-true _ _ b.0; whole = leb-true _ _ b.1 }

  -- Of the store itself only its length counts.
  by_length : (other : List ℕ) → length other ≡ length store → in_store rows other row len ≡ in_store rows store row len
  unfolding in_store
  by_length other e = rw e

  pub in_store_lem : IsPart rows store row len → in_store rows store row len ≡ true
  unfolding in_store
  in_store_lem p = simp (lt-ltb _ _ p.is_row, le-leb _ _ p.room, le-leb _ _ p.whole)

-- Two choices by one test are equal where the first ones are, if the test holds.
cond_same : (b : Bool) (z : List ℕ) {x y : List ℕ} → (b ≡ true → x ≡ y) → cond b x z ≡ cond b y z
cond_same true z f = f refl
cond_same false z f = refl

module _ (rows : ℕ) (store : List ℕ) (row : ℕ) (bytes : List ℕ) where
  bytes_fit : in_store rows store row (length bytes) ≡ true → row * 1024 + length bytes ≤ length store
  bytes_fit e = let p = is_part rows store row (length bytes) e in omega arith

  pub length_copied : length (copied rows store row bytes) ≡ length store
  unfolding copied
  length_copied = go (in_store rows store row (length bytes)) refl
    where
      go : (b : Bool) → in_store rows store row (length bytes) ≡ b → length (cond b (stored store row bytes) store) ≡ length store
      go true e = same_length store row bytes (bytes_fit e)
      go false e = refl

  part_stored : in_store rows store row (length bytes) ≡ true → part_of rows (stored store row bytes) row (length bytes) ≡ bytes
  unfolding part_of
  part_stored e =
      rw (by_length rows store row (length bytes) (stored store row bytes) (same_length store row bytes (bytes_fit e)), e)
      (holds store row bytes (bytes_fit e))

  pub part_copied : in_store rows store row (length bytes) ≡ true → part_of rows (copied rows store row bytes) row (length bytes) ≡ bytes
  unfolding copied
  part_copied e = rw e (part_stored e)

  part_beside : in_store rows store row (length bytes) ≡ true → (k len : ℕ) → (k ≡ row → ⊥)
      → part_of rows (stored store row bytes) k len ≡ part_of rows store k len
  unfolding part_of
  part_beside e k len other =
      let p = is_part rows store row (length bytes) e in
      rw (by_length rows store k len (stored store row bytes) (same_length store row bytes (bytes_fit e)))
      (cond_same (in_store rows store k len) [] (λ f.
      let q = is_part rows store k len f in
      ⊎_elim
      (λ (up : k < row). earlier store row bytes (bytes_fit e) k len (omega arith))
      (λ (down : row ≤ k). later store row bytes (bytes_fit e) k len (omega arith))
      (cases_lt k row)))

  pub part_other : (k len : ℕ) → (k ≡ row → ⊥) → part_of rows (copied rows store row bytes) k len ≡ part_of rows store k len
  unfolding copied
  part_other k len other = go (in_store rows store row (length bytes)) refl
    where
      go : (b : Bool) → in_store rows store row (length bytes) ≡ b → part_of rows (cond b (stored store row bytes) store) k len ≡ part_of rows store k len
      go true e = part_beside e k len other
      go false e = refl

  pub byte_kept : (i : ℕ) → (i < row * 1024) ⊎ (row * 1024 + length bytes ≤ i) → get_or (copied rows store row bytes) i 0 ≡ get_or store i 0
  unfolding copied
  byte_kept i h = go (in_store rows store row (length bytes)) refl h
    where
      go : (b : Bool) → in_store rows store row (length bytes) ≡ b → (i < row * 1024) ⊎ (row * 1024 + length bytes ≤ i)
          → get_or (cond b (stored store row bytes) store) i 0 ≡ get_or store i 0
      go true e (inl h) = byte_before store row bytes (bytes_fit e) i h
      go true e (inr h) = byte_behind store row bytes (bytes_fit e) i h
      go false e h = refl

pub length_part : (rows : ℕ) (store : List ℕ) (row len : ℕ) → in_store rows store row len ≡ true → length (part_of rows store row len) ≡ len
unfolding part_of
length_part rows store row len e =
    let p = is_part rows store row len e in
    rw e (length-take-le len (drop (row * 1024) store) (simp length-drop (omega arith)))
