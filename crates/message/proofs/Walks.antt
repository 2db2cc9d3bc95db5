-- One step of the attributes, and what a step does to the walk over all of them.
use Rattle.std.specs.Prelude.{Option, None, Some}
use Rattle.message.specs.declared.IntegrityAlgorithm.{IntegrityAlgorithm}
use mathlib.Core.Path.{◌≡◌, refl, ap, ◌∙◌}
use mathlib.Core.List.{List, [], ◌∷◌}
use mathlib.Core.Logic.{◌⊎◌, inl, inr, ⊎_elim}
use Prim.Native.Nat.{ℕ, zero, suc, ◌+◌, ◌≤◌, ◌<◌}
use native.Mathlib.Numerals.{add-one}
use native.Mathlib.Decide.{dec_le}
use native.Mathlib.Omega.{arith}
use lib.ListN.{length, get_or, drop, length-drop, drop_of_length-le}
use lib.Seq.{drop-cons, drop-drop}
use Rattle.wire.specs.Wire.{be16}
use Rattle.message.specs.Attributes.{padded, next_of, step_at, Tlv, Attributes, those, cut, with_tlv, attributes_from, later, walk_with}
use Rattle.message.specs.declared.Step.TheVariants.{Attribute}

-- Bytes to be passed are dropped where there are enough, and cut the walk where there are not.
skip : (l : List ℕ) (at n : ℕ) → n ≤ length l → attributes_from l at n ≡ attributes_from (drop n l) (at + n) 0
unfolding attributes_from
skip [] at zero h = refl
skip [] at (suc n) h = absurd (omega arith)
skip (b ∷ l) at zero h = ap (λ (i : ℕ). attributes_from (b ∷ l) i 0) (omega arith)
skip (b ∷ l) at (suc n) h = skip l (at + 1) n (omega arith) ∙ ap (λ (i : ℕ). attributes_from (drop n l) i 0) (omega arith)

skip_cut : (l : List ℕ) (at n : ℕ) → length l < n → attributes_from l at n ≡ cut
unfolding attributes_from
skip_cut [] at zero h = absurd (omega arith)
skip_cut [] at (suc n) h = refl
skip_cut (b ∷ l) at zero h = absurd (omega arith)
skip_cut (b ∷ l) at (suc n) h = skip_cut l (at + 1) n (omega arith)

le_or_lt : (a b : ℕ) → (a ≤ b) ⊎ (b < a)
le_or_lt a b = elim (dec_le a b) [ yes h ↦ inl h | no h ↦ inr (omega arith) ]

-- Fewer than four bytes are no attribute.
few : (l : List ℕ) (at : ℕ) → 0 < length l → length l < 4 → attributes_from l at 0 ≡ cut
unfolding attributes_from
few [] at h k = absurd (omega arith)
few (a ∷ []) at h k = refl
few (a ∷ (b ∷ [])) at h k = refl
few (a ∷ (b ∷ (c ∷ []))) at h k = refl
few (a ∷ (b ∷ (c ∷ (d ∷ l)))) at h k = absurd (omega arith)

next_byte : (s : List ℕ) (i j : ℕ) → i < length s → j ≡ i + 1 → drop i s ≡ get_or s i 0 ∷ drop j s
next_byte s i j h e = rw (e, add-one, drop-cons s i 0)

module _ (s : List ℕ) (at : ℕ) where
  four : at + 4 ≤ length s → drop at s ≡ get_or s at 0 ∷ (get_or s (at + 1) 0 ∷ (get_or s (at + 2) 0 ∷ (get_or s (at + 2 + 1) 0 ∷ drop (at + 4) s)))
  four h =
      rw (
        next_byte s at (at + 1) (omega arith) refl,
        next_byte s (at + 1) (at + 2) (omega arith) (omega arith),
        next_byte s (at + 2) (at + 2 + 1) (omega arith) refl,
        next_byte s (at + 2 + 1) (at + 4) (omega arith) (omega arith),
      )

  -- The attribute at this place.
  abbrev pub tlv_at : Tlv
  tlv_at = record { kind = be16 s at; start = at + 4; len = be16 s (at + 2) }

  pub attributes_step : next_of s at ≤ length s → attributes_from (drop at s) at 0 ≡ with_tlv tlv_at (attributes_from (drop (next_of s at) s) (next_of s at) 0)
  unfolding attributes_from
  attributes_step h =
      rw (four (omega arith))
      (ap (with_tlv tlv_at)
      (skip (drop (at + 4) s) (at + 4) (padded (be16 s (at + 2))) (simp length-drop (omega arith))
      ∙ ap (λ (l : List ℕ). attributes_from l (next_of s at) 0) (drop-drop (padded (be16 s (at + 2))) (at + 4) s)))

  pub attributes_past : at < length s → length s < next_of s at → attributes_from (drop at s) at 0 ≡ cut
  unfolding attributes_from
  attributes_past h past =
      ⊎_elim
      (λ (room : at + 4 ≤ length s).
      rw (four room) (ap (with_tlv tlv_at) (skip_cut (drop (at + 4) s) (at + 4) (padded (be16 s (at + 2))) (simp length-drop (omega arith)))))
      (λ (short : length s < at + 4). few (drop at s) at (simp length-drop (omega arith)) (simp length-drop (omega arith)))
      (le_or_lt (at + 4) (length s))

-- An attribute passed is one more that has been looked at.
walk_more : (i : Option IntegrityAlgorithm) (t : Tlv) (ts : Attributes) → walk_with i (with_tlv t ts) ≡ walk_with (later i t.kind) ts
walk_more i t (those ts) = refl
walk_more i t cut = refl

-- An attribute of type k, with the next place: nearer to the end, not past it, and the walk goes on there with the type looked at.
pub record Stepped (s : List ℕ) (at : ℕ) (i : Option IntegrityAlgorithm) (k next : ℕ) : Type 0 where
  pub on : at < next
  pub within : next ≤ length s
  pub same : walk_with i (attributes_from (drop at s) at 0) ≡ walk_with (later i k) (attributes_from (drop next s) next 0)

-- What the walk is at a place: at the end, where an attribute stands, and where none does.
module _ (s : List ℕ) (at : ℕ) (i : Option IntegrityAlgorithm) where
  pub walk_end : length s ≤ at → walk_with i (attributes_from (drop at s) at 0) ≡ Some i
  unfolding attributes_from
  walk_end h = rw (drop_of_length-le s h)

  module _ (inside : at < length s) where
    pub walk_step : (k st l n : ℕ) → step_at s at ≡ Attribute k st l n → Stepped s at i k n
    unfolding step_at
    walk_step k st l n e =
        ⊎_elim
        (λ (fits : next_of s at ≤ length s).
        let ek : k ≡ be16 s at = grind arith in
        let en : n ≡ next_of s at = grind arith in
        record {
          on = omega arith;
          within = omega arith;
          same = rw (ek, en) (ap (walk_with i) (attributes_step s at fits) ∙ walk_more i (tlv_at s at) (attributes_from (drop (next_of s at) s) (next_of s at) 0));
        })
        (λ (past : length s < next_of s at). absurd (grind arith))
        (le_or_lt (next_of s at) (length s))

    pub walk_cut : ((k st l n : ℕ) → step_at s at ≡ Attribute k st l n → ⊥) → walk_with i (attributes_from (drop at s) at 0) ≡ None
    unfolding step_at
    walk_cut none =
        ⊎_elim
        (λ (fits : next_of s at ≤ length s). absurd (none (be16 s at) (at + 4) (be16 s (at + 2)) (next_of s at) (grind arith)))
        (λ (past : length s < next_of s at). ap (walk_with i) (attributes_past s at inside past))
        (le_or_lt (next_of s at) (length s))
