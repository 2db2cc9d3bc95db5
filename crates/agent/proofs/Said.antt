-- The model's theorems, of a table that may be too short: its rows are all there, or every call is refused as "a state not well formed".
--     whole_in, refused_in, short_in, passed_in     which refusal a call answers, and when it isn't refused
--     said_by, said_whole, by_model                 of a table with all its rows a call is the model's
--     said_number, said_refused, words_refused      the answer tells the refusal; a refused call changes nothing
use Rattle.requests.proofs.Lists.{none_some}
use Rattle.model.specs.declared.Refusal.{Refusal}
use Rattle.model.specs.declared.Refusal.TheVariants.{State}
use Rattle.std.specs.Prelude.{Option, None, Some}
use Prim.Native.Nat.{ℕ, ◌≤◌, ◌<◌}
use mathlib.Core.Path.{◌≡◌, refl, sym, ap, subst, ◌∙◌}
use mathlib.Core.Bool.{Bool, true, false}
use mathlib.Core.Logic.{◌↔◌}
use mathlib.Core.List.{List}
use lib.Dec.{leb}
use lib.ListN.{length}
use borrow.Author.Tests.{le-leb, lt-leb, leb-true, leb-false}
use Rattle.records.specs.Coding.{size}
use Rattle.model.specs.World.{World}
use Rattle.model.specs.Calls.{Kind}
use Rattle.model.specs.Refusals.{number_of, holds, refusal_of}
use Rattle.model.specs.Effects.{answer_of, after}
use Rattle.model.specs.Says.{Said, refused_by, decided, says_of}
use Rattle.model.specs.declared.Answer.TheVariants as answer
use Rattle.model.proofs.Refused as model
use Rattle.model.proofs.Answers.{answer_number}
use Rattle.agent.specs.Said.{refusal_in, said_in, words_in}

module _ (t : List ℕ) (w : World) (k : Kind) (m : List ℕ) where
  pub whole_in : size ≤ length t → refusal_in t w k m ≡ refusal_of 32 w k m
  unfolding refusal_in
  whole_in h = rw (le-leb size (length t) h)

  pub refused_in : size ≤ length t → (r : Refusal)
      → (refusal_in t w k m ≡ Some r) ↔ ((holds 32 w k m r ≡ true) × ((q : Refusal) → number_of q < number_of r → holds 32 w k m q ≡ false))
  refused_in h r = rw (whole_in h) (model.refused_exactly 32 w k m r)

  pub short_in : length t < size → refusal_in t w k m ≡ Some State
  unfolding refusal_in
  short_in h = rw (lt-leb size (length t) h)

  pub passed_in : (refusal_in t w k m ≡ None) ↔ ((size ≤ length t) × ((r : Refusal) → holds 32 w k m r ≡ false))
  passed_in = (to (leb size (length t)) refl, λ p. whole_in p.0 ∙ (model.passed_exactly 32 w k m).1 p.1)
    where
      to : (b : Bool) → leb size (length t) ≡ b → refusal_in t w k m ≡ None → (size ≤ length t) × ((r : Refusal) → holds 32 w k m r ≡ false)
      to true e z =
          let h = leb-true size (length t) e in
          (h, (model.passed_exactly 32 w k m).0 (sym (whole_in h) ∙ z))
      to false e z = none_some (sym z ∙ short_in (leb-false size (length t) e))

  pub said_by : said_in t w k m ≡ decided (refusal_in t w k m) w (record { answer = answer_of 32 w k m; world = after 32 w k m })
  unfolding said_in
  said_by = refl

  pub said_refused : (q : Refusal) → refusal_in t w k m ≡ Some q → said_in t w k m ≡ record { answer = answer.Refused q; world = w }
  said_refused n e = said_by ∙ rw e

  pub said_whole : size ≤ length t → said_in t w k m ≡ says_of 32 w k m
  said_whole h = go (refusal_of 32 w k m) refl
    where
      go : (o : Option Refusal) → refusal_of 32 w k m ≡ o → said_in t w k m ≡ says_of 32 w k m
      go None e = said_by ∙ rw (whole_in h, e) (sym (model.passed_does 32 w k m e))
      go (Some q) e = said_refused q (whole_in h ∙ e) ∙ sym (model.refused_same 32 w k m q e)

  -- What holds of the model's outcome, and of a refusal that changes nothing, holds of the outcome.
  pub by_model : (Q : Said → Type 0) → Q (says_of 32 w k m) → Q (record { answer = answer.Refused State; world = w }) → Q (said_in t w k m)
  by_model Q h g = go (leb size (length t)) refl
    where
      go : (b : Bool) → leb size (length t) ≡ b → Q (said_in t w k m)
      go true e = subst Q (sym (said_whole (leb-true size (length t) e))) h
      go false e = subst Q (sym (said_refused State (short_in (leb-false size (length t) e)))) g

  pub said_number : refused_by (said_in t w k m).answer ≡ refusal_in t w k m
  said_number = go (leb size (length t)) refl
    where
      go : (b : Bool) → leb size (length t) ≡ b → refused_by (said_in t w k m).answer ≡ refusal_in t w k m
      go true e =
          let h = leb-true size (length t) e in
          ap (λ (s : Said). refused_by s.answer) (said_whole h) ∙ answer_number 32 w m k ∙ sym (whole_in h)
      go false e = let z = short_in (leb-false size (length t) e) in ap (λ (s : Said). refused_by s.answer) (said_refused State z) ∙ sym z

  pub words_refused : (q : Refusal) → refusal_in t w k m ≡ Some q → words_in t w k m ≡ t
  unfolding words_in
  words_refused n e = rw e
