-- The test of well-formedness, from the last request to the first.
--     Passed, passed_none, passed_next              what holds of the requests read so far
--     no_limits, row_again, not_before              one law for each test that fails
--     most_rows                                     words that hold well-formed requests hold at most `rows`
--     row_below                                     what a request's limits say of its row
use Rattle.std.specs.Prelude.{Option, None, Some}
use Prim.Native.Nat.{ℕ, zero, suc, ◌-◌, ◌≤◌, ◌<◌}
use mathlib.Core.Path.{◌≡◌, refl, sym, ap, ◌∙◌}
use mathlib.Core.Bool.{Bool, true, false, not, ◌&&◌, and-eq-true_iff}
use mathlib.Core.List.{List, [], ◌∷◌}
use native.Mathlib.Omega.{arith}
use lib.ListN.{length, get_or, set, drop, replicate, length-drop}
use Rattle.rows.specs.Lists.{all, among}
use Rattle.message.specs.declared.TransactionId.{TransactionId}
use Rattle.request.specs.Limits.{within_limits}
use Rattle.request.specs.declared.StunRequestState.{StunRequestState}
use Rattle.request.proofs.Limits.{within_limits_lem}
use Rattle.requests.specs.Search.{key_of, keys_of, rows_of}
use Rattle.requests.specs.Formed.{Formed, ascending, different, formed}
use Rattle.requests.proofs.Formed.{ascending_exactly, formed_exactly, out_of_order, row_twice, out_of_limits}
use Rattle.records.specs.Live.{live}
use Rattle.records.proofs.Live.{length_live}
use Rattle.requests.proofs.Lists.{apart, is_false, ascending_tail}
use Rattle.formed.specs.Flags.{flags}
use Rattle.formed.specs.Order.{is_after, next_of}
use Rattle.formed.proofs.Flags.{flag_at}
use Rattle.formed.proofs.Loaded.{flagged_none, mark_taken}

-- a request is in order where it goes before the first of those behind it, and they are in order
ascending_after : (r : StunRequestState) (rs : List StunRequestState) → ascending (keys_of (r ∷ rs)) ≡ (is_after (next_of rs) (key_of r) && ascending (keys_of rs))
ascending_after r [] = refl
ascending_after r (s ∷ rs) = refl

module _ (rows mark : ℕ) where
  formed_tail : (r : StunRequestState) (rs : List StunRequestState) → Formed rows mark (r ∷ rs) → Formed rows mark rs
  formed_tail r rs f = record {
    count = omega (arith, f.count);
    order = ascending_tail (key_of r) (keys_of rs) f.order;
    apart = f.apart.1;
    within = f.within.1;
  }

  formed_drop : (l : List StunRequestState) (i : ℕ) → Formed rows mark l → Formed rows mark (drop i l)
  formed_drop [] zero f = f
  formed_drop [] (suc i) f = f
  formed_drop (r ∷ rs) zero f = f
  formed_drop (r ∷ rs) (suc i) f = formed_drop rs i (formed_tail r rs f)

  module _ (l : List StunRequestState) (i : ℕ) where
    formed_part : formed rows mark (drop i l) ≡ false → false ≡ formed rows mark l
    formed_part e = sym (is_false (formed rows mark l) (λ f. apart (sym (whole f) ∙ e)))
      where
        whole : formed rows mark l ≡ true → formed rows mark (drop i l) ≡ true
        whole f = (formed_exactly rows mark (drop i l)).1 (formed_drop l i ((formed_exactly rows mark l).0 f))

  pub most_rows : (n : ℕ) (t : List ℕ) → formed rows mark (live n t) ≡ true → n ≤ rows
  most_rows n t e = rw (length_live n t) at ((formed_exactly rows mark (live n t)).0 e).count

  pub row_below : (r : StunRequestState) → within_limits rows mark r ≡ true → r.row < rows
  row_below r e = ((within_limits_lem rows mark r).0 e).row

  -- the requests read so far are well formed, their rows are flagged, and the first of them is known
  pub record Passed (rs : List StunRequestState) (taken : List Bool) (next : Option TransactionId) : Type 0 where
    pub good : formed rows mark rs ≡ true
    pub flagged : taken ≡ flags rows (rows_of rs)
    pub first : next ≡ next_of rs

  pub passed_none : (rs : List StunRequestState) → rs ≡ [] → Passed rs (replicate rows false) None
  passed_none rs e = record {
    good = ap (formed rows mark) e ∙ (formed_exactly rows mark []).1 record { count = omega arith; order = tt; apart = tt; within = tt };
    flagged = flagged_none rows rs e;
    first = ap next_of (sym e);
  }

  -- one more is read: r, which stands before them
  module _ (l : List StunRequestState) (i : ℕ) (taken : List Bool) (next : Option TransactionId) (w : Passed (drop i l) taken next) (r : StunRequestState) (e : drop (i - 1) l ≡ r ∷ drop i l) where
    refused : false ≡ formed rows mark (r ∷ drop i l) → false ≡ formed rows mark l
    refused f = formed_part l (i - 1) (ap (formed rows mark) e ∙ sym f)

    flag_says : (d : Bool) → r.row < rows → get_or taken r.row d ≡ among r.row (rows_of (drop i l))
    flag_says d h = ap (λ (m : List Bool). get_or m r.row d) w.flagged ∙ flag_at rows r.row (rows_of (drop i l)) d h

    after_says : is_after next (key_of r) ≡ is_after (next_of (drop i l)) (key_of r)
    after_says = ap (λ (m : Option TransactionId). is_after m (key_of r)) w.first

    pub no_limits : within_limits rows mark r ≡ false → false ≡ formed rows mark l
    no_limits f = refused (out_of_limits rows mark (r ∷ drop i l) (ap (λ (b : Bool). b && all (within_limits rows mark) (drop i l)) f))

    pub row_again : (d : Bool) → r.row < rows → get_or taken r.row d ≡ true → false ≡ formed rows mark l
    row_again d h f =
        refused (row_twice rows mark (r ∷ drop i l) (ap (λ (b : Bool). not b && different (rows_of (drop i l))) (sym (flag_says d h) ∙ f)))

    pub not_before : is_after next (key_of r) ≡ false → false ≡ formed rows mark l
    not_before f =
        refused
        (out_of_order
        rows
        mark
        (r ∷ drop i l)
        (ascending_after r (drop i l) ∙ ap (λ (b : Bool). b && ascending (keys_of (drop i l))) (sym after_says ∙ f)))

    pub passed_next : (d : Bool) → length l ≤ rows → within_limits rows mark r ≡ true → get_or taken r.row d ≡ false → is_after next (key_of r) ≡ true
        → Passed (drop (i - 1) l) (set taken r.row true) (Some r.transaction_id)
    passed_next d h g f o =
        let b : r.row < rows = row_below r g in
        let v : Formed rows mark (drop i l) = (formed_exactly rows mark (drop i l)).0 w.good in
        let k : length (drop (i - 1) l) ≡ length (r ∷ drop i l) = ap length e in
        let n : length (r ∷ drop i l) ≤ rows = omega (arith, length-drop (i - 1) l) in
        let x : is_after (next_of (drop i l)) (key_of r) ≡ true = sym after_says ∙ o in
        let y : ascending (keys_of (drop i l)) ≡ true = (ascending_exactly (keys_of (drop i l))).1 v.order in
        let s : ascending (keys_of (r ∷ drop i l)) ≡ true = ascending_after r (drop i l) ∙ (and-eq-true_iff _ _).1 (x, y) in
        record {
          good = ap (formed rows mark) e ∙ (formed_exactly rows mark (r ∷ drop i l)).1 record {
            count = n;
            order = (ascending_exactly (keys_of (r ∷ drop i l))).0 s;
            apart = (λ a. apart (sym a ∙ (sym (flag_says d b) ∙ f)), v.apart);
            within = ((within_limits_lem rows mark r).0 g, v.within);
          };
          flagged = mark_taken rows taken (drop i l) (drop (i - 1) l) r w.flagged e b;
          first = ap next_of (sym e);
        }
