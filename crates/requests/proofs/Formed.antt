-- The test of the outstanding requests decides whether they are well formed.
--     ascending_exactly                                       the order of the identifiers
--     formed_exactly                                          the whole
--     too_many, out_of_order, row_twice, out_of_limits        one law for each clause that fails, whatever the others say
--     all_but_within                                          the limits decide where the other clauses hold
use Prim.Native.Nat.{ℕ, ◌≤◌, ◌<◌}
use mathlib.Core.Path.{◌≡◌, refl, sym, ◌∙◌}
use mathlib.Core.Bool.{true, false, not, and-eq-true_iff, and-false}
use mathlib.Core.Logic.{◌↔◌}
use mathlib.Core.List.{List, [], ◌∷◌}
use lib.Dec.{ltb}
use lib.ListN.{length}
use borrow.Author.Tests.{le-leb, lt-leb, lt-ltb, leb-true, ltb-true, not-true}
use Rattle.rows.specs.Lists.{all, among}
use Rattle.request.specs.Limits.{within_limits}
use Rattle.request.specs.declared.StunRequestState.{StunRequestState}
use Rattle.request.proofs.Limits.{within_limits_lem}
use Rattle.requests.specs.Search.{keys_of, rows_of}
use Rattle.requests.specs.Formed.{Ascending, Different, AllWithin, Formed, ascending, different, all_within, formed}
use Rattle.requests.proofs.Lists.{apart, is_false}

ascending_says : (l : List ℕ) → ascending l ≡ true → Ascending l
ascending_says [] e = tt
ascending_says (a ∷ []) e = tt
ascending_says (a ∷ (b ∷ l)) e =
    let p = (and-eq-true_iff (ltb a b) (ascending (b ∷ l))).0 e in
    (ltb-true a b p.0, ascending_says (b ∷ l) p.1)

ascending_holds : (l : List ℕ) → Ascending l → ascending l ≡ true
ascending_holds [] s = refl
ascending_holds (a ∷ []) s = refl
ascending_holds (a ∷ (b ∷ l)) s = rw (lt-ltb a b s.0) (ascending_holds (b ∷ l) s.1)

pub ascending_exactly : (l : List ℕ) → (ascending l ≡ true) ↔ Ascending l
ascending_exactly l = (ascending_says l, ascending_holds l)

different_says : (l : List ℕ) → different l ≡ true → Different l
different_says [] e = tt
different_says (a ∷ l) e =
    let p = (and-eq-true_iff (not (among a l)) (different l)).0 e in
    (λ f. apart (sym f ∙ not-true (among a l) p.0), different_says l p.1)

different_holds : (l : List ℕ) → Different l → different l ≡ true
different_holds [] d = refl
different_holds (a ∷ l) d = rw (is_false (among a l) d.0) (different_holds l d.1)

module _ (rows mark : ℕ) where
  within_says : (l : List StunRequestState) → all_within rows mark l ≡ true → AllWithin rows mark l
  within_says [] e = tt
  within_says (r ∷ rs) e =
      let p = (and-eq-true_iff (within_limits rows mark r) (all (within_limits rows mark) rs)).0 e in
      ((within_limits_lem rows mark r).0 p.0, within_says rs p.1)

  within_holds : (l : List StunRequestState) → AllWithin rows mark l → all_within rows mark l ≡ true
  within_holds [] w = refl
  within_holds (r ∷ rs) w = rw ((within_limits_lem rows mark r).1 w.0) (within_holds rs w.1)

  module _ (l : List StunRequestState) where
    formed_says : formed rows mark l ≡ true → Formed rows mark l
    unfolding formed
    formed_says e =
        let a = (and-eq-true_iff _ _).0 e in
        let b = (and-eq-true_iff _ _).0 a.1 in
        let c = (and-eq-true_iff _ _).0 b.1 in
        record {
          count = leb-true (length l) rows a.0;
          order = ascending_says (keys_of l) b.0;
          apart = different_says (rows_of l) c.0;
          within = within_says l c.1;
        }

    formed_holds : Formed rows mark l → formed rows mark l ≡ true
    unfolding formed
    formed_holds f =
        rw (le-leb (length l) rows f.count, ascending_holds (keys_of l) f.order, different_holds (rows_of l) f.apart)
        (within_holds l f.within)

    pub formed_exactly : (formed rows mark l ≡ true) ↔ Formed rows mark l
    formed_exactly = (formed_says, formed_holds)

    pub too_many : rows < length l → false ≡ formed rows mark l
    unfolding formed
    too_many h = rw (lt-leb (length l) rows h)

    pub out_of_order : ascending (keys_of l) ≡ false → false ≡ formed rows mark l
    unfolding formed
    out_of_order e = rw (e, and-false)

    pub row_twice : different (rows_of l) ≡ false → false ≡ formed rows mark l
    unfolding formed
    row_twice e = rw (e, and-false, and-false)

    pub out_of_limits : all_within rows mark l ≡ false → false ≡ formed rows mark l
    unfolding formed
    out_of_limits e = rw (e, and-false, and-false, and-false)

    pub all_but_within : length l ≤ rows → ascending (keys_of l) ≡ true → different (rows_of l) ≡ true
        → all_within rows mark l ≡ formed rows mark l
    unfolding formed
    all_but_within h o d = rw (le-leb (length l) rows h, o, d)
