-- What a turn does to the steps and lines of what is left of a trace.
use Rattle.std.specs.Prelude.{Option, None, Some, Result, Ok, Err}
use Rattle.model.specs.declared.Refusal.{Refusal}
use Rattle.model.specs.declared.StunAgent.{StunAgent}
use Rattle.stats.specs.declared.Event.{Event}
use mathlib.Core.Path.{◌≡◌, refl, sym, ap, ◌∙◌}
use mathlib.Core.Bool.{Bool, true, false, cond}
use mathlib.Core.List.{List, [], ◌∷◌}
use Prim.Native.Nat.{ℕ, zero, suc, ◌+◌, ◌-◌, ◌≤◌, ◌<◌}
use native.Mathlib.Omega.{arith}
use lib.ListN.{length, take, drop, length-drop}
use lib.Seq.{length-take-le}
use Rattle.model.specs.Fresh.{build_of}
use Rattle.model.specs.Says.{Said, says}
use Rattle.record.specs.Records.{record_of}
use Rattle.record.specs.declared.Record.{Record}
use Rattle.record.specs.declared.Record.TheVariants.{Settings, Whole}
use Rattle.record.proofs.Frames.{fresh_lies, whole_lies}
use Rattle.line.specs.Lines.{line_of}
use Rattle.replay.specs.Runs.{Stand, Played, Step, stop, made, stepped, turn_by, turn_of, step_of, steps_in, numbered}

-- A turn stays within the trace, and uses something of it where another follows.
pub record Goes (s : List ℕ) (t : Played) : Type 0 where
  pub within : t.next ≤ length s
  pub on : t.more ≡ true → 0 < t.next

made_goes : (w : Stand) (s : List ℕ) (b : Result (StunAgent × Event) Refusal) (end : ℕ) → 5 ≤ end → end ≤ length s → Goes s (made w b end)
made_goes w s (Ok (a, e)) end h k = record { within = k; on = λ z. omega arith }
made_goes w s (Err n) end h k = record { within = k; on = λ z. omega arith }

stop_goes : (w : Stand) (s : List ℕ) → Goes s (stop w)
stop_goes w s = record { within = omega arith; on = λ z. absurd (let o : ◌≡◌ {A = ℕ} 0 1 = cc in omega arith) }

pub turn_goes : (w : Stand) (s : List ℕ) → Goes s (turn_of w s)
unfolding turn_of
turn_goes w s = go (record_of s) refl
  where
    step : (b : Bool) (x : Said) (end : ℕ) → 5 ≤ end → end ≤ length s → Goes s (cond b (stepped x end) (stop w))
    step true x end h k = record { within = k; on = λ z. omega arith }
    step false x end h k = stop_goes w s

    go : (r : Option Record) → record_of s ≡ r → Goes s (turn_by w s r)
    go None e = stop_goes w s
    go (Some (Settings b end)) e = let l = fresh_lies s e in made_goes w s (build_of b) end l.some l.ends
    go (Some (Whole call start end)) e = let l = whole_lies s e in step w.on (says 32 w.world call (take (end - start) (drop start s))) end l.some l.ends

where_on : {A : Type 0} (b : Bool) {x y : A} (z : A) → (b ≡ true → x ≡ y) → cond b x z ≡ cond b y z
where_on true z f = f refl
where_on false z f = refl

-- Any fuel that reaches the length gives the same steps.
pub enough : (m n : ℕ) (w : Stand) (s : List ℕ) → length s ≤ m → length s ≤ n → steps_in m w s ≡ steps_in n w s
unfolding steps_in
enough zero zero w s h k = refl
enough zero (suc n) w [] h k = refl
enough zero (suc n) w (b ∷ s) h k = absurd (omega arith)
enough (suc m) zero w [] h k = refl
enough (suc m) zero w (b ∷ s) h k = absurd (omega arith)
enough (suc m) (suc n) w [] h k = refl
enough (suc m) (suc n) w (b ∷ s) h k =
    let t = turn_of w (b ∷ s) in
    let g = turn_goes w (b ∷ s) in
    ap (λ (l : List Step). step_of w (b ∷ s) ∷ l)
    (where_on t.more []
    (λ o.
    let l : length (drop t.next (b ∷ s)) ≡ length (b ∷ s) - t.next = length-drop t.next (b ∷ s) in
    enough m n t.stand (drop t.next (b ∷ s)) (omega (arith, l, g.on o)) (omega (arith, l, g.on o))))

-- The lines of what is left, numbered from n.
unfoldable pub lines_from : ℕ → Stand → List ℕ → List (List ℕ)
lines_from n w s = numbered n (steps_in (length s) w s)

pub lines_none : (n : ℕ) (w : Stand) → lines_from n w [] ≡ []
unfolding lines_from steps_in numbered
lines_none n w = refl

-- The first line, and the others.
pub lines_next : (n : ℕ) (w : Stand) (s : List ℕ) → 0 < length s
    → lines_from n w s ≡ line_of n (turn_of w s).reply ∷ cond (turn_of w s).more (lines_from (n + 1) (turn_of w s).stand (drop (turn_of w s).next s)) []
unfolding lines_from steps_in numbered
lines_next n w [] h = absurd (omega arith)
lines_next n w (b ∷ s) h =
    let t = turn_of w (b ∷ s) in
    let g = turn_goes w (b ∷ s) in
    let l : length (drop t.next (b ∷ s)) ≡ length (b ∷ s) - t.next = length-drop t.next (b ∷ s) in
    ap (λ (x : List (List ℕ)). line_of n t.reply ∷ x)
    (under t.more (λ o. enough (length s) (length (drop t.next (b ∷ s))) t.stand (drop t.next (b ∷ s)) (omega (arith, l, g.on o)) (omega arith)))
  where
    under : (m : Bool) {x y : List Step} → (m ≡ true → x ≡ y) → numbered (n + 1) (cond m x []) ≡ cond m (numbered (n + 1) y) []
    under true f = ap (numbered (n + 1)) (f refl)
    under false f = refl

-- The same for a turn over the part of a list that goes to its end, as a caller has it.
pub turn_within : (s : List ℕ) (at : ℕ) (w : Stand) {t : Played} → at ≤ length s → t ≡ turn_of w (take (length s - at) (drop at s))
    → (at + t.next ≤ length s) × (t.more ≡ true → 0 < t.next)
turn_within s at w {t} h e =
    let r : List ℕ = take (length s - at) (drop at s) in
    let g = turn_goes w r in
    let l : length r ≡ length s - at = length-take-le (length s - at) (drop at s) (rw length-drop (omega arith)) in
    let n : t.next ≡ (turn_of w r).next = ap (λ (x : Played). x.next) e in
    (omega (arith, g.within), λ m. rw n (g.on (ap (λ (x : Played). x.more) (sym e) ∙ m)))
