-- What looking for a request says, and what it says after a change.
--     found_exactly, found-placed, none_exactly     what `lookup` finds
--     placed_found                                  in ascending order each request is found where it stands
--     place_most, added_cons                        the place of a new request, and the list with it
--     rows_added, .., set_within                    order, rows and limits after `added`, `remove_at` and `set`
--     lookup_added, .., lookup_set_other            looking after a change, for the same identifier and for another
use Rattle.std.specs.Prelude.{Option, None, Some, slice_get}
use Prim.Native.Nat.{ℕ, zero, suc, ◌≤◌, ◌<◌}
use mathlib.Core.Path.{◌≡◌, refl, sym, ap, ◌∙◌}
use mathlib.Core.Bool.{Bool, true, false, cond, ◌||◌}
use mathlib.Core.Logic.{◌↔◌}
use Rattle.std.proofs.lemmas.Option.{some_pair_parts}
use mathlib.Core.List.{List, [], ◌∷◌, ◌++◌}
use native.Mathlib.Numerals.{add-one}
use native.Mathlib.Omega.{arith}
use lib.Dec.{eqb, ltb}
use lib.ListN.{length, take, drop, set}
use lib.Seq.{take-set-le}
use borrow.Author.Tests.{eqb-true, eqb-false, eq-eqb, ne_eqb, ltb-true, ltb-false}
use Rattle.rows.specs.Lists.{insert_at, remove_at, among}
use Rattle.rows.proofs.Lists.{map_insert_at, map_remove_at}
use Rattle.request.specs.Limits.{RequestLimits}
use Rattle.request.specs.declared.StunRequestState.{StunRequestState}
use Rattle.request.proofs.Limits.{limits_later}
use Rattle.requests.specs.Search.{key_of, keys_of, row_of, rows_of, lookup_from, lookup, place_from, place_of, added, request_of}
use Rattle.requests.specs.Formed.{Ascending, Different, AllWithin}
use Rattle.requests.proofs.Lists.{neither, some_same, none_some, placed_below, placed_split, placed_set, map_kept, ascending_tail, ascending_lower, ascending_absent, insert_different, remove_different, remove_ascending}

-- one place further on
abbrev pub onward : Option (ℕ × StunRequestState) → Option (ℕ × StunRequestState)
onward (Some (i, r)) = Some ((suc i), r)
onward None = None

lookup_onward : (i k : ℕ) (l : List StunRequestState) → lookup_from (suc i) k l ≡ onward (lookup_from i k l)
lookup_onward i k [] = refl
lookup_onward i k (r ∷ rs) = rw (add-one i, add-one (suc i)) (go (eqb (key_of r) k) (lookup_onward (suc i) k rs))
  where
    go : (b : Bool) → lookup_from (suc (suc i)) k rs ≡ onward (lookup_from (suc i) k rs)
        → cond b (Some ((suc i), r)) (lookup_from (suc (suc i)) k rs) ≡ onward (cond b (Some (i, r)) (lookup_from (suc i) k rs))
    go true e = refl
    go false e = e

-- `lookup` and `place_of` by recursion on the list
pub lookup_cons : (k : ℕ) (r : StunRequestState) (rs : List StunRequestState)
    → lookup k (r ∷ rs) ≡ cond (eqb (key_of r) k) (Some (0, r)) (onward (lookup k rs))
lookup_cons k r rs = rw (lookup_onward 0 k rs)

place_onward : (i k : ℕ) (l : List StunRequestState) → place_from (suc i) k l ≡ suc (place_from i k l)
place_onward i k [] = refl
place_onward i k (r ∷ rs) = rw (add-one i, add-one (suc i)) (go (ltb (key_of r) k) (place_onward (suc i) k rs))
  where
    go : (b : Bool) → place_from (suc (suc i)) k rs ≡ suc (place_from (suc i) k rs)
        → cond b (place_from (suc (suc i)) k rs) (suc i) ≡ suc (cond b (place_from (suc i) k rs) i)
    go true e = e
    go false e = refl

pub place_cons : (k : ℕ) (r : StunRequestState) (rs : List StunRequestState)
    → place_of k (r ∷ rs) ≡ cond (ltb (key_of r) k) (suc (place_of k rs)) 0
place_cons k r rs = rw (place_onward 0 k rs)

pub place_most : (k : ℕ) (l : List StunRequestState) → place_of k l ≤ length l
place_most k [] = omega arith
place_most k (r ∷ rs) = rw (place_cons k r rs) (go (ltb (key_of r) k) (place_most k rs))
  where
    go : (b : Bool) → place_of k rs ≤ length rs → cond b (suc (place_of k rs)) 0 ≤ suc (length rs)
    go true h = omega arith
    go false h = omega arith

pub added_cons : (r q : StunRequestState) (qs : List StunRequestState)
    → added r (q ∷ qs) ≡ cond (ltb (key_of q) (key_of r)) (q ∷ added r qs) (r ∷ (q ∷ qs))
added_cons r q qs = rw (place_cons (key_of r) q qs) (go (ltb (key_of q) (key_of r)))
  where
    go : (b : Bool) → insert_at (q ∷ qs) (cond b (suc (place_of (key_of r) qs)) 0) r ≡ cond b (q ∷ added r qs) (r ∷ (q ∷ qs))
    go true = refl
    go false = refl

-- ---- what is found

-- the request r with the key k stands at place i, and none before it has that key
pub record FoundAt (k i : ℕ) (r : StunRequestState) (l : List StunRequestState) : Type 0 where
  pub placed : slice_get l i ≡ Some r
  pub below : i < length l
  pub split : l ≡ take i l ++ (r ∷ drop (suc i) l)
  pub key_is : key_of r ≡ k
  pub first : among k (keys_of (take i l)) ≡ false

found_says : (k i : ℕ) (r : StunRequestState) (l : List StunRequestState) → lookup k l ≡ Some (i, r)
    → (slice_get l i ≡ Some r) × (key_of r ≡ k) × (among k (keys_of (take i l)) ≡ false)
found_says k i r [] e = let z : ◌≡◌ {A = ℕ} 0 1 = cc in absurd (omega arith)
found_says k i r (q ∷ qs) e = go (eqb (key_of q) k) refl (lookup k qs) refl (rw (lookup_cons k q qs) at e) (λ j. found_says k j r qs)
  where
    here : 0 ≡ i → q ≡ r → key_of q ≡ k → (slice_get (q ∷ qs) i ≡ Some r) × (key_of r ≡ k) × (among k (keys_of (take i (q ∷ qs))) ≡ false)
    here z s h = rw (← z, ← s) (refl, h, refl)

    go : (b : Bool) → eqb (key_of q) k ≡ b → (f : Option (ℕ × StunRequestState)) → lookup k qs ≡ f → cond b (Some (0, q)) (onward f) ≡ Some (i, r)
        → ((j : ℕ) → lookup k qs ≡ Some (j, r) → (slice_get qs j ≡ Some r) × (key_of r ≡ k) × (among k (keys_of (take j qs)) ≡ false))
        → (slice_get (q ∷ qs) i ≡ Some r) × (key_of r ≡ k) × (among k (keys_of (take i (q ∷ qs))) ≡ false)
    go true b f g h ih = let s = some_pair_parts _ _ _ _ h in here s.0 s.1 (eqb-true (key_of q) k b)
    go false b (Some (j, p)) g h ih =
        let s = some_pair_parts _ _ _ _ h in
        let t = ih j (g ∙ ap (λ (r : StunRequestState). Some (j, r)) s.1) in
        rw (← s.0, b) t
    go false b None g h ih = let z : ◌≡◌ {A = ℕ} 0 1 = cc in absurd (omega arith)

found_holds : (k i : ℕ) (r : StunRequestState) (l : List StunRequestState) → slice_get l i ≡ Some r → key_of r ≡ k
    → among k (keys_of (take i l)) ≡ false → lookup k l ≡ Some (i, r)
found_holds k i r [] e h f = none_some e
found_holds k zero r (q ∷ qs) e h f =
    let s : q ≡ r = some_same e in
    rw (s, eq-eqb (key_of r) k h)
found_holds k (suc i) r (q ∷ qs) e h f =
    let p = neither (eqb (key_of q) k) (among k (keys_of (take i qs))) f in
    lookup_cons k q qs ∙ rw (p.0, found_holds k i r qs e h p.1)

module _ (k i : ℕ) (r : StunRequestState) (l : List StunRequestState) where
  pub found_at : lookup k l ≡ Some (i, r) → FoundAt k i r l
  found_at e =
      let s = found_says k i r l e in
      record { placed = s.0; below = placed_below l i r s.0; split = placed_split l i r s.0; key_is = s.1; first = s.2 }

  pub found_exactly : (lookup k l ≡ Some (i, r)) ↔ FoundAt k i r l
  found_exactly = (found_at, λ f. found_holds k i r l f.placed f.key_is f.first)

none_says : (k : ℕ) (l : List StunRequestState) → lookup k l ≡ None → among k (keys_of l) ≡ false
none_says k [] e = refl
none_says k (q ∷ qs) e = go (eqb (key_of q) k) (lookup k qs) refl (rw (lookup_cons k q qs) at e) (none_says k qs)
  where
    go : (b : Bool) (f : Option (ℕ × StunRequestState)) → lookup k qs ≡ f → cond b (Some (0, q)) (onward f) ≡ None → (lookup k qs ≡ None → among k (keys_of qs) ≡ false)
        → (b || among k (keys_of qs)) ≡ false
    go true f g h ih = let z : ◌≡◌ {A = ℕ} 0 1 = cc in absurd (omega arith)
    go false (Some (j, p)) g h ih = let z : ◌≡◌ {A = ℕ} 0 1 = cc in absurd (omega arith)
    go false None g h ih = ih g

none_holds : (k : ℕ) (l : List StunRequestState) → among k (keys_of l) ≡ false → lookup k l ≡ None
none_holds k [] e = refl
none_holds k (q ∷ qs) e =
    let p = neither (eqb (key_of q) k) (among k (keys_of qs)) e in
    lookup_cons k q qs ∙ rw (p.0, none_holds k qs p.1)

pub none_exactly : (k : ℕ) (l : List StunRequestState) → (lookup k l ≡ None) ↔ (among k (keys_of l) ≡ false)
none_exactly k l = (none_says k l, none_holds k l)

-- a request that stands in the list has another key than one that isn't among the keys
pub among_placed : (k : ℕ) (l : List StunRequestState) (i : ℕ) (r : StunRequestState) → among k (keys_of l) ≡ false → slice_get l i ≡ Some r
    → key_of r ≡ k → ⊥
among_placed k [] i r n e z = none_some e
among_placed k (q ∷ qs) zero r n e z =
    eqb-false (key_of q) k (neither (eqb (key_of q) k) (among k (keys_of qs)) n).0 (ap key_of (some_same e) ∙ z)
among_placed k (q ∷ qs) (suc i) r n e z = among_placed k qs i r (neither (eqb (key_of q) k) (among k (keys_of qs)) n).1 e z

-- in ascending order each request is found where it stands
pub placed_found : (i : ℕ) (r : StunRequestState) (l : List StunRequestState) → Ascending (keys_of l) → slice_get l i ≡ Some r
    → lookup (key_of r) l ≡ Some (i, r)
placed_found i r [] s e = none_some e
placed_found zero r (q ∷ qs) s e =
    let z : q ≡ r = some_same e in
    rw (z, eq-eqb (key_of r) (key_of r) refl)
placed_found (suc i) r (q ∷ qs) s e = go (eqb (key_of q) (key_of r)) refl (placed_found i r qs (ascending_tail (key_of q) (keys_of qs) s) e)
  where
    go : (b : Bool) → eqb (key_of q) (key_of r) ≡ b → lookup (key_of r) qs ≡ Some (i, r) → lookup (key_of r) (q ∷ qs) ≡ Some ((suc i), r)
    go true b f =
        let n = none_holds (key_of r) qs (ascending_absent (key_of q) (key_of r) (keys_of qs) s (omega (arith, eqb-true (key_of q) (key_of r) b))) in
        let z : ◌≡◌ {A = ℕ} 0 1 = cc in absurd (omega arith)
    go false b f = lookup_cons (key_of r) q qs ∙ rw (b, f)

-- ---- what a change keeps

module _ (r : StunRequestState) (l : List StunRequestState) where
  pub rows_added : rows_of (added r l) ≡ insert_at (rows_of l) (place_of (key_of r) l) (row_of r)
  rows_added = map_insert_at row_of l (place_of (key_of r) l) r

module _ (l : List StunRequestState) (i : ℕ) where
  pub keys_removed : keys_of (remove_at l i) ≡ remove_at (keys_of l) i
  keys_removed = map_remove_at key_of l i

  pub rows_removed : rows_of (remove_at l i) ≡ remove_at (rows_of l) i
  rows_removed = map_remove_at row_of l i

  module _ (r q : StunRequestState) (placed : slice_get l i ≡ Some r) where
    pub keys_set : key_of q ≡ key_of r → keys_of (set l i q) ≡ keys_of l
    keys_set h = map_kept key_of l i r q placed h

    pub rows_set : row_of q ≡ row_of r → rows_of (set l i q) ≡ rows_of l
    rows_set h = map_kept row_of l i r q placed h

added_above : (a : ℕ) (r : StunRequestState) (l : List StunRequestState) → a < key_of r → Ascending (a ∷ keys_of l) → among (key_of r) (keys_of l) ≡ false
    → Ascending (a ∷ keys_of (added r l))
added_above a r [] h s n = (h, tt)
added_above a r (q ∷ qs) h s n = rw (added_cons r q qs) (go (ltb (key_of q) (key_of r)) refl (λ b. added_above (key_of q) r qs b s.1 p.1))
  where
    p : (eqb (key_of q) (key_of r) ≡ false) × (among (key_of r) (keys_of qs) ≡ false)
    p = neither (eqb (key_of q) (key_of r)) (among (key_of r) (keys_of qs)) n

    go : (b : Bool) → ltb (key_of q) (key_of r) ≡ b → (key_of q < key_of r → Ascending (key_of q ∷ keys_of (added r qs)))
        → Ascending (a ∷ keys_of (cond b (q ∷ added r qs) (r ∷ (q ∷ qs))))
    go true b ih = (s.0, ih (ltb-true (key_of q) (key_of r) b))
    go false b ih = (h, (omega (arith, ltb-false (key_of q) (key_of r) b, eqb-false (key_of q) (key_of r) p.0), s.1))

pub added_ascending : (r : StunRequestState) (l : List StunRequestState) → Ascending (keys_of l) → among (key_of r) (keys_of l) ≡ false
    → Ascending (keys_of (added r l))
added_ascending r [] s n = tt
added_ascending r (q ∷ qs) s n = rw (added_cons r q qs) (go (ltb (key_of q) (key_of r)) refl)
  where
    p : (eqb (key_of q) (key_of r) ≡ false) × (among (key_of r) (keys_of qs) ≡ false)
    p = neither (eqb (key_of q) (key_of r)) (among (key_of r) (keys_of qs)) n

    go : (b : Bool) → ltb (key_of q) (key_of r) ≡ b → Ascending (keys_of (cond b (q ∷ added r qs) (r ∷ (q ∷ qs))))
    go true b = added_above (key_of q) r qs (ltb-true (key_of q) (key_of r) b) s p.1
    go false b = (omega (arith, ltb-false (key_of q) (key_of r) b, eqb-false (key_of q) (key_of r) p.0), s)

pub added_different : (r : StunRequestState) (l : List StunRequestState) → Different (rows_of l) → among (row_of r) (rows_of l) ≡ false
    → Different (rows_of (added r l))
added_different r l d n = rw (rows_added r l) (insert_different (row_of r) (rows_of l) (place_of (key_of r) l) d n)

module _ (l : List StunRequestState) (i : ℕ) where
  pub removed_ascending : Ascending (keys_of l) → Ascending (keys_of (remove_at l i))
  removed_ascending s = rw (keys_removed l i) (remove_ascending (keys_of l) i s)

  pub removed_different : Different (rows_of l) → Different (rows_of (remove_at l i))
  removed_different d = rw (rows_removed l i) (remove_different (rows_of l) i d)

module _ (rows mark : ℕ) where
  pub insert_within : (l : List StunRequestState) (i : ℕ) (r : StunRequestState) → AllWithin rows mark l → RequestLimits rows mark r
      → AllWithin rows mark (insert_at l i r)
  insert_within l zero r w h = (h, w)
  insert_within [] (suc i) r w h = (h, tt)
  insert_within (q ∷ qs) (suc i) r w h = (w.0, insert_within qs i r w.1 h)

  pub added_within : (r : StunRequestState) (l : List StunRequestState) → AllWithin rows mark l → RequestLimits rows mark r
      → AllWithin rows mark (added r l)
  added_within r l w h = insert_within l (place_of (key_of r) l) r w h

  pub removed_within : (l : List StunRequestState) (i : ℕ) → AllWithin rows mark l → AllWithin rows mark (remove_at l i)
  removed_within [] i w = tt
  removed_within (q ∷ qs) zero w = w.1
  removed_within (q ∷ qs) (suc i) w = (w.0, removed_within qs i w.1)

  pub set_within : (l : List StunRequestState) (i : ℕ) (r : StunRequestState) → AllWithin rows mark l → RequestLimits rows mark r
      → AllWithin rows mark (set l i r)
  set_within [] i r w h = tt
  set_within (q ∷ qs) zero r w h = (h, w.1)
  set_within (q ∷ qs) (suc i) r w h = (w.0, set_within qs i r w.1 h)

  -- at a later mark
  pub later_within : (later : ℕ) → mark ≤ later → (l : List StunRequestState) → AllWithin rows mark l → AllWithin rows later l
  later_within later h [] w = tt
  later_within later h (r ∷ rs) w = (limits_later rows mark later r h w.0, later_within later h rs w.1)

  -- the limits of the request at a place
  pub placed_within : (l : List StunRequestState) (i : ℕ) (r : StunRequestState) → AllWithin rows mark l → slice_get l i ≡ Some r
      → RequestLimits rows mark r
  placed_within [] i r w e = none_some e
  placed_within (q ∷ qs) zero r w e = rw (some_same e) at w.0
  placed_within (q ∷ qs) (suc i) r w e = placed_within qs i r w.1 e

-- ---- looking after a change

-- `request_of` of a look, by recursion on the list
onward_request : (f : Option (ℕ × StunRequestState)) → request_of (onward f) ≡ request_of f
onward_request (Some (i, r)) = refl
onward_request None = refl

pub request_cons : (k : ℕ) (r : StunRequestState) (rs : List StunRequestState)
    → request_of (lookup k (r ∷ rs)) ≡ cond (eqb (key_of r) k) (Some r) (request_of (lookup k rs))
request_cons k r rs = rw (lookup_cons k r rs) (go (eqb (key_of r) k))
  where
    go : (b : Bool) → request_of (cond b (Some (0, r)) (onward (lookup k rs))) ≡ cond b (Some r) (request_of (lookup k rs))
    go true = refl
    go false = onward_request (lookup k rs)

-- the new request is found at its place
pub lookup_added : (r : StunRequestState) (l : List StunRequestState) → lookup (key_of r) (added r l) ≡ Some ((place_of (key_of r) l), r)
lookup_added r [] = rw (eq-eqb (key_of r) (key_of r) refl)
lookup_added r (q ∷ qs) = rw (added_cons r q qs, place_cons (key_of r) q qs) (go (ltb (key_of q) (key_of r)) refl (lookup_added r qs))
  where
    go : (b : Bool) → ltb (key_of q) (key_of r) ≡ b → lookup (key_of r) (added r qs) ≡ Some ((place_of (key_of r) qs), r)
        → lookup (key_of r) (cond b (q ∷ added r qs) (r ∷ (q ∷ qs))) ≡ Some ((cond b (suc (place_of (key_of r) qs)) 0), r)
    go true b ih =
        let n : eqb (key_of q) (key_of r) ≡ false = ne_eqb (key_of q) (key_of r) (λ e. omega (arith, ltb-true (key_of q) (key_of r) b)) in
        lookup_cons (key_of r) q (added r qs) ∙ rw (n, ih)
    go false b ih = rw (eq-eqb (key_of r) (key_of r) refl)

pub lookup_added_other : (k : ℕ) (r : StunRequestState) (l : List StunRequestState) → (key_of r ≡ k → ⊥)
    → request_of (lookup k (added r l)) ≡ request_of (lookup k l)
lookup_added_other k r [] n = rw (ne_eqb (key_of r) k n)
lookup_added_other k r (q ∷ qs) n = rw (added_cons r q qs) (go (ltb (key_of q) (key_of r)) (lookup_added_other k r qs n))
  where
    go : (b : Bool) → request_of (lookup k (added r qs)) ≡ request_of (lookup k qs)
        → request_of (lookup k (cond b (q ∷ added r qs) (r ∷ (q ∷ qs)))) ≡ request_of (lookup k (q ∷ qs))
    go true ih = rw (request_cons k q (added r qs), request_cons k q qs, ih)
    go false ih = request_cons k r (q ∷ qs) ∙ rw (ne_eqb (key_of r) k n)

-- in ascending order a request behind the first has another key
pub placed_other : (a i : ℕ) (r : StunRequestState) (l : List StunRequestState) → Ascending (a ∷ keys_of l) → slice_get l i ≡ Some r → a ≡ key_of r → ⊥
placed_other a i r [] s e z = none_some e
placed_other a zero r (q ∷ qs) s e z = let h : a < key_of q = s.0 in omega (arith, ap key_of (some_same e))
placed_other a (suc i) r (q ∷ qs) s e z =
    placed_other a i r qs (ascending_lower a (key_of q) (keys_of qs) (let h : a < key_of q = s.0 in omega arith) s.1) e z

-- so none has the key of the one that was taken out
pub lookup_removed : (i : ℕ) (r : StunRequestState) (l : List StunRequestState) → Ascending (keys_of l) → slice_get l i ≡ Some r
    → lookup (key_of r) (remove_at l i) ≡ None
lookup_removed i r [] s e = none_some e
lookup_removed zero r (q ∷ qs) s e =
    none_holds (key_of r) qs (ascending_absent (key_of q) (key_of r) (keys_of qs) s (omega (arith, ap key_of (some_same e))))
lookup_removed (suc i) r (q ∷ qs) s e =
    let n : eqb (key_of q) (key_of r) ≡ false = ne_eqb (key_of q) (key_of r) (placed_other (key_of q) i r qs s e) in
    lookup_cons (key_of r) q (remove_at qs i) ∙ rw (n, lookup_removed i r qs (ascending_tail (key_of q) (keys_of qs) s) e)

pub lookup_removed_other : (k i : ℕ) (r : StunRequestState) (l : List StunRequestState) → slice_get l i ≡ Some r → (key_of r ≡ k → ⊥)
    → request_of (lookup k (remove_at l i)) ≡ request_of (lookup k l)
lookup_removed_other k i r [] e n = refl
lookup_removed_other k zero r (q ∷ qs) e n =
    let m : eqb (key_of q) k ≡ false = ne_eqb (key_of q) k (λ z. n (ap key_of (sym (some_same e)) ∙ z)) in
    sym (request_cons k q qs ∙ rw m)
lookup_removed_other k (suc i) r (q ∷ qs) e n =
    rw (request_cons k q (remove_at qs i), request_cons k q qs, lookup_removed_other k i r qs e n)

-- another record of the same request, put where it was found
pub lookup_set : (k i : ℕ) (r q : StunRequestState) (l : List StunRequestState) → lookup k l ≡ Some (i, r) → key_of q ≡ k → lookup k (set l i q) ≡ Some (i, q)
lookup_set k i r q l e h =
    let f = found_at k i r l e in
    found_holds k i q (set l i q) (placed_set l i r q f.placed) h (rw (take-set-le i l i q (omega arith)) f.first)

pub lookup_set_other : (k i : ℕ) (r q : StunRequestState) (l : List StunRequestState) → slice_get l i ≡ Some r → key_of q ≡ key_of r → (key_of r ≡ k → ⊥)
    → lookup k (set l i q) ≡ lookup k l
lookup_set_other k i r q [] e h n = refl
lookup_set_other k zero r q (p ∷ ps) e h n =
    let a : eqb (key_of q) k ≡ false = ne_eqb (key_of q) k (λ z. n (sym h ∙ z)) in
    let b : eqb (key_of p) k ≡ false = ne_eqb (key_of p) k (λ z. n (ap key_of (sym (some_same e)) ∙ z)) in
    rw (a, b)
lookup_set_other k (suc i) r q (p ∷ ps) e h n =
    rw (lookup_cons k p (set ps i q), lookup_cons k p ps, lookup_set_other k i r q ps e h n)

-- the same of a request that was found
module _ (k i : ℕ) (r : StunRequestState) (l : List StunRequestState) (found : lookup k l ≡ Some (i, r)) where
  found_key : key_of r ≡ k
  found_key = (found_at k i r l found).key_is

  pub lookup_taken : Ascending (keys_of l) → lookup k (remove_at l i) ≡ None
  lookup_taken s = rw found_key at (lookup_removed i r l s (found_at k i r l found).placed)

  pub lookup_taken_other : (other : ℕ) → (other ≡ k → ⊥) → request_of (lookup other (remove_at l i)) ≡ request_of (lookup other l)
  lookup_taken_other other n =
      lookup_removed_other other i r l (found_at k i r l found).placed (λ z. n (sym z ∙ found_key))

  pub lookup_changed_other : (q : StunRequestState) (other : ℕ) → key_of q ≡ k → (other ≡ k → ⊥) → lookup other (set l i q) ≡ lookup other l
  lookup_changed_other q other h n =
      lookup_set_other other i r q l (found_at k i r l found).placed (h ∙ sym found_key) (λ z. n (sym z ∙ found_key))
