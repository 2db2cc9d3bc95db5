-- Which refusal a call answers, and what a refused call changes.
--     refused_exactly, passed_exactly    a refusal is given exactly when its test holds and no lower one does; none where none does
--     numbers_of                         the numbers of the refusals are document 01's, 1 to 12, each of one refusal
--     refused_same, passed_does          a refused call answers its refusal and changes nothing; another one has its effect
--     bad_state_first, past_state_lem        the test of the state, and those behind it
use Rattle.model.specs.declared.Refusal.{Refusal}
use Rattle.model.specs.declared.Refusal.TheVariants.{State, Settings, Clock, TooLong, BadMessage, WrongClass, InProgress, TableFull, NoRequest, PeersFull, NoStats, Counts}
use Rattle.std.specs.Prelude.{Some, None, Option, slice_get}
use Prim.Native.Nat.{ℕ, zero, suc, ◌+◌, ◌<◌, ◌≤◌}
use mathlib.Core.Path.{◌≡◌, refl, sym, ap, ◌∙◌}
use mathlib.Core.Bool.{Bool, true, false, cond}
use mathlib.Core.Logic.{◌↔◌, ◌⊎◌, inl, inr}
use mathlib.Core.List.{List, [], ◌∷◌}
use native.Mathlib.Omega.{arith}
use Rattle.requests.proofs.Lists.{apart, some_same, none_some}
use Rattle.model.specs.World.{World, state_formed}
use Rattle.model.specs.Calls.{Kind}
use Rattle.model.specs.Refusals.{number_of, holds, refusals, lowest, refusal_of, refusal_past}
use Rattle.model.specs.Effects.{answer_of, after}
use Rattle.model.specs.Says.{says_of}
use Rattle.model.specs.declared.Answer.TheVariants as answer

-- ---- the table: numbers from 1 on, without a gap, and each refusal stands in it

abbrev Numbered : ℕ → List Refusal → Type 0
Numbered n [] = Unit
Numbered n (r ∷ rs) = (number_of r ≡ n) × Numbered (suc n) rs

numbered : Numbered 1 refusals
numbered = (refl, (refl, (refl, (refl, (refl, (refl, (refl, (refl, (refl, (refl, (refl, (refl, tt))))))))))))

placed_number : (n : ℕ) (l : List Refusal) → Numbered n l → (i : ℕ) (r : Refusal) → slice_get l i ≡ Some r → number_of r ≡ n + i
placed_number n [] h i r e = none_some e
placed_number n (q ∷ qs) h zero r e = let z : q ≡ r = some_same e in ap number_of (sym z) ∙ h.0 ∙ omega arith
placed_number n (q ∷ qs) h (suc i) r e = placed_number (suc n) qs h.1 i r e ∙ omega arith

stands : (r : Refusal) → (i : ℕ) × (slice_get refusals i ≡ Some r)
stands State = (0, refl)
stands Settings = (1, refl)
stands Clock = (2, refl)
stands TooLong = (3, refl)
stands BadMessage = (4, refl)
stands WrongClass = (5, refl)
stands InProgress = (6, refl)
stands TableFull = (7, refl)
stands NoRequest = (8, refl)
stands PeersFull = (9, refl)
stands NoStats = (10, refl)
stands Counts = (11, refl)

-- The number of a refusal is its place in the table, counted from 1.
number_at : (i : ℕ) (r : Refusal) → slice_get refusals i ≡ Some r → number_of r ≡ suc i
number_at i r e = placed_number 1 refusals numbered i r e ∙ omega arith

-- Document 01's numbers, 1 to 12, tell the refusals apart.
pub record NumbersOf (r : Refusal) : Type 0 where
  pub least : 1 ≤ number_of r
  pub most : number_of r ≤ 12
  pub apart : (q : Refusal) → number_of r ≡ number_of q → r ≡ q

pub numbers_of : (r : Refusal) → NumbersOf r
numbers_of r = record { least = grind arith; most = grind arith; apart = λ q e. grind arith }

-- ---- the lowest of any tests

module _ (test : Refusal → Bool) where
  -- the test of the refusal at place i of a list holds, and none before it
  record LowestAt (l : List Refusal) (i : ℕ) (r : Refusal) : Type 0 where
    placed : slice_get l i ≡ Some r
    true_here : test r ≡ true
    false_before : (j : ℕ) (q : Refusal) → j < i → slice_get l j ≡ Some q → test q ≡ false

  lowest_at : (l : List Refusal) (i : ℕ) (r : Refusal) → LowestAt l i r → lowest test l ≡ Some r
  lowest_at [] i r a = none_some a.placed
  lowest_at (q ∷ qs) zero r a = let z : q ≡ r = some_same a.placed in rw (z, a.true_here)
  lowest_at (q ∷ qs) (suc i) r a =
      rw (a.false_before 0 q (omega arith) refl)
      (lowest_at qs i r (record { placed = a.placed; true_here = a.true_here; false_before = λ j p h. a.false_before (suc j) p (omega arith) }))

  -- none holds, or there is a lowest
  abbrev NoneOrLowest : Option Refusal → List Refusal → Type 0
  NoneOrLowest o l = ((o ≡ None) × ((i : ℕ) (q : Refusal) → slice_get l i ≡ Some q → test q ≡ false)) ⊎ ((i : ℕ) × (r : Refusal) × LowestAt l i r)

  lowest_says : (l : List Refusal) → NoneOrLowest (lowest test l) l
  lowest_says [] = inl (refl, λ i q e. none_some e)
  lowest_says (p ∷ ps) = go (test p) refl (lowest_says ps)
    where
      before : {C : ℕ → Type 0} → test p ≡ false → ((j : ℕ) (q : Refusal) → C j → slice_get ps j ≡ Some q → test q ≡ false)
          → (j : ℕ) (q : Refusal) → ((i : ℕ) → j ≡ suc i → C i) → slice_get (p ∷ ps) j ≡ Some q → test q ≡ false
      before b f zero q c e = rw (some_same e) at b
      before b f (suc j) q c e = f j q (c j refl) e

      onward : test p ≡ false → NoneOrLowest (lowest test ps) ps → NoneOrLowest (lowest test ps) (p ∷ ps)
      onward b (inl n) = inl (n.0, λ i q e. before {C = λ j. Unit} b (λ j q u. n.1 j q) i q (λ j z. tt) e)
      onward b (inr s) =
          inr (
            suc s.0,
            s.1,
            record {
              placed = s.2.placed;
              true_here = s.2.true_here;
              false_before = λ j q h e. before {C = λ j. j < s.0} b s.2.false_before j q (λ k z. omega arith) e;
            },
          )

      go : (b : Bool) → test p ≡ b → NoneOrLowest (lowest test ps) ps → NoneOrLowest (cond b (Some p) (lowest test ps)) (p ∷ ps)
      go true b ih = inr (0, p, record { placed = refl; true_here = b; false_before = λ j q h e. absurd (omega arith) })
      go false b ih = onward b ih

  exactly : (r : Refusal) → (lowest test refusals ≡ Some r) ↔ ((test r ≡ true) × ((q : Refusal) → number_of q < number_of r → test q ≡ false))
  exactly r = (λ e. to e (lowest_says refusals), from)
    where
      to : lowest test refusals ≡ Some r
          → NoneOrLowest (lowest test refusals) refusals
          → (test r ≡ true) × ((q : Refusal) → number_of q < number_of r → test q ≡ false)
      to e (inl n) = none_some (sym n.0 ∙ e)
      to e (inr s) =
          let z : s.1 ≡ r = some_same (sym (lowest_at refusals s.0 s.1 s.2) ∙ e) in (
            rw z at s.2.true_here,
            λ q h.
                let p = stands q in
                s.2.false_before p.0 q (omega (arith, number_at p.0 q p.1, number_at s.0 s.1 s.2.placed, ap number_of z)) p.1,
          )

      from : (test r ≡ true) × ((q : Refusal) → number_of q < number_of r → test q ≡ false) → lowest test refusals ≡ Some r
      from h =
          let s = stands r in
          lowest_at refusals s.0 r (record {
            placed = s.1;
            true_here = h.0;
            false_before = λ j q l e. h.1 q (omega (arith, number_at j q e, number_at s.0 r s.1));
          })

  none_exactly : (lowest test refusals ≡ None) ↔ ((r : Refusal) → test r ≡ false)
  none_exactly = (λ e. to e (lowest_says refusals), λ f. from f (lowest_says refusals))
    where
      to : lowest test refusals ≡ None
          → NoneOrLowest (lowest test refusals) refusals
          → (r : Refusal) → test r ≡ false
      to e (inl n) r = let s = stands r in n.1 s.0 r s.1
      to e (inr s) r = none_some (sym e ∙ lowest_at refusals s.0 s.1 s.2)

      from : ((r : Refusal) → test r ≡ false)
          → NoneOrLowest (lowest test refusals) refusals
          → lowest test refusals ≡ None
      from f (inl n) = n.0
      from f (inr s) = apart (sym s.2.true_here ∙ f s.1)

-- ---- a call's own tests

module _ (rows : ℕ) (w : World) (k : Kind) (m : List ℕ) where
  -- "Given exactly when"; "where several apply, the lowest number is answered".
  pub refused_exactly : (r : Refusal)
      → (refusal_of rows w k m ≡ Some r) ↔ ((holds rows w k m r ≡ true) × ((q : Refusal) → number_of q < number_of r → holds rows w k m q ≡ false))
  unfolding refusal_of
  refused_exactly r = exactly (holds rows w k m) r

  pub passed_exactly : (refusal_of rows w k m ≡ None) ↔ ((r : Refusal) → holds rows w k m r ≡ false)
  unfolding refusal_of
  passed_exactly = none_exactly (holds rows w k m)

  -- The state is tested first, and the rest behind it.
  pub bad_state_first : state_formed rows w ≡ false → refusal_of rows w k m ≡ Some State
  unfolding refusal_of
  bad_state_first e = rw e

  pub past_state_lem : state_formed rows w ≡ true → refusal_of rows w k m ≡ refusal_past rows w k m
  unfolding refusal_of refusal_past
  past_state_lem e = rw e

  -- "A refused call answers its number and leaves state, statistics, store and peers unchanged, the clock mark included."
  pub refused_same : (q : Refusal) → refusal_of rows w k m ≡ Some q → says_of rows w k m ≡ record { answer = answer.Refused q; world = w }
  unfolding says_of
  refused_same n e = rw e

  pub passed_does : refusal_of rows w k m ≡ None → says_of rows w k m ≡ record { answer = answer_of rows w k m; world = after rows w k m }
  unfolding says_of
  passed_does e = rw e
