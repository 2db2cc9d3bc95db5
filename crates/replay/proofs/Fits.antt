-- The lines that fit: what a turn of the run adds to them.
use mathlib.Core.Path.{◌≡◌, refl, sym, ap, ◌∙◌}
use mathlib.Core.Bool.{Bool, true, false, cond}
use mathlib.Core.List.{List, [], ◌∷◌, ◌++◌, append-nil, append_assoc}
use Prim.Native.Nat.{ℕ, ◌+◌, ◌-◌, ◌≤◌, ◌<◌}
use native.Mathlib.Nat.{sub-zero}
use native.Mathlib.Omega.{arith}
use lib.ListN.{length, take, drop, replicate, length-drop, drop_of_length-le}
use lib.Seq.{drop-drop, take_all, length-take-le}
use borrow.Author.Tests.{le-leb, lt-leb}
use Rattle.line.specs.Lines.{Puts, line_of}
use Rattle.line.proofs.Putting.{put_fits, put_over, put_length}
use Rattle.replay.specs.Runs.{Stand, Played, turn_of, steps_of, first_stand, lines_of, fitting, Lined, Replays}
use Rattle.replay.proofs.Steps.{lines_from, lines_none, lines_next, turn_goes}

fit_over : (l : List ℕ) (ls : List (List ℕ)) (m : ℕ) → m < length l → fitting (l ∷ ls) m ≡ []
unfolding fitting
fit_over l ls m h = simp (lt-leb _ _ h)

fit_whole : (l : List ℕ) (ls : List (List ℕ)) (m : ℕ) → length l ≤ m → fitting (l ∷ ls) m ≡ l ++ fitting ls (m - length l)
unfolding fitting
fit_whole l ls m h = simp (le-leb _ _ h)

-- A part that goes to the end.
rest_is : (s : List ℕ) (at : ℕ) → take (length s - at) (drop at s) ≡ drop at s
rest_is s at = take_all (length s - at) (drop at s) (rw length-drop (omega arith))

-- Where a run stands: the lines put so far, and what is left of the trace to come.
pub record Stands (trace : List ℕ) (m : ℕ) (out : List ℕ) (stand : Stand) (at number put : ℕ) : Type 0 where
  pub reads : at ≤ length trace
  pub puts : put ≤ m
  pub size : length out ≡ m
  pub counts : number ≤ at + 1
  pub all : fitting (lines_of trace) m ≡ take put out ++ fitting (lines_from number stand (drop at trace)) (m - put)

pub starts : (trace out : List ℕ) {w : Stand} → w ≡ first_stand → Stands trace (length out) out w 0 1 0
unfolding lines_of steps_of lines_from
starts trace out e = record { reads = omega arith; puts = omega arith; size = refl; counts = omega arith; all = rw (e, sub-zero) }

module _ {trace : List ℕ} {m : ℕ} {out : List ℕ} {stand : Stand} {at number put : ℕ} (st : Stands trace m out stand at number put) where
  -- At the end of the trace.
  pub ended : length trace ≤ at → Lined trace m out put
  unfolding fitting
  ended h =
      record {
        within = st.puts;
        holds = sym (st.all ∙ rw (drop_of_length-le trace h, lines_none number stand) (tail));
      }
    where
      tail : take put out ++ fitting [] (m - put) ≡ take put out
      tail = append-nil (take put out)

  module _ (more : at < length trace) {t : Played} (called : t ≡ turn_of stand (take (length trace - at) (drop at trace))) {after : List ℕ} {end : ℕ}
      (p : Puts out put (line_of number t.reply) after end) where
    et : t ≡ turn_of stand (drop at trace)
    et = called ∙ ap (turn_of stand) (rest_is trace at)

    others : List (List ℕ)
    others = cond (turn_of stand (drop at trace)).more (lines_from (number + 1) (turn_of stand (drop at trace)).stand (drop (turn_of stand (drop at trace)).next (drop at trace))) []

    split : lines_from number stand (drop at trace) ≡ line_of number t.reply ∷ others
    unfolding others
    split = lines_next number stand (drop at trace) (rw length-drop (omega arith)) ∙ ap (λ (x : Played). line_of number x.reply ∷ others) (sym et)

    -- The line does not fit.
    pub stopped : length after < end → Lined trace m after put
    stopped h =
        let l : length after ≡ length out = put_length p in
        let s : length out ≡ m = st.size in
        let o = put_over p (omega arith) in
        record {
          within = st.puts;
          holds = o.1 ∙ sym (st.all ∙ rw (split, fit_over (line_of number t.reply) others (m - put) (omega (arith, o.0, st.puts))) (append-nil (take put out)));
        }

    module _ (fits : end ≤ length after) where
      room : (end ≡ put + length (line_of number t.reply)) × (take end after ≡ take put out ++ line_of number t.reply)
      room = put_fits p (omega (arith, put_length p))

      joined : fitting (lines_of trace) m ≡ take end after ++ fitting others (m - end)
      joined =
          let l : length after ≡ length out = put_length p in
          let s : length out ≡ m = st.size in
          let e : end ≡ put + length (line_of number t.reply) = room.0 in
          let d : m - put - length (line_of number t.reply) ≡ m - end = omega arith in
          st.all
          ∙ rw (split, fit_whole (line_of number t.reply) others (m - put) (omega arith), room.1, append_assoc, d)

      -- The line fits, and is the last one.
      pub finished : t.more ≡ false → Lined trace m after end
      unfolding others fitting
      finished h =
          let l : length after ≡ length out = put_length p in
          let s : length out ≡ m = st.size in
          record {
            within = omega arith;
            holds = sym (joined ∙ last (turn_of stand (drop at trace)).more _ (ap (λ (x : Played). x.more) (sym et) ∙ h));
          }
        where
          last : (b : Bool) (x : List (List ℕ)) → b ≡ false → take end after ++ fitting (cond b x []) (m - end) ≡ take end after
          last true x e = absurd (let o : ◌≡◌ {A = ℕ} 0 1 = cc in omega arith)
          last false x e = append-nil (take end after)

      -- The line fits, and others follow.
      pub goes_on : t.more ≡ true → Stands trace m after t.stand (at + t.next) (number + 1) end
      unfolding others
      goes_on h =
          let l : length after ≡ length out = put_length p in
          let s : length out ≡ m = st.size in
          let g = turn_goes stand (drop at trace) in
          let d : length (drop at trace) ≡ length trace - at = length-drop at trace in
          let n : t.next ≡ (turn_of stand (drop at trace)).next = ap (λ (x : Played). x.next) et in
          let o : (turn_of stand (drop at trace)).more ≡ true = ap (λ (x : Played). x.more) (sym et) ∙ h in
          let w : t.stand ≡ (turn_of stand (drop at trace)).stand = ap (λ (x : Played). x.stand) et in
          record {
            reads = omega (arith, g.within);
            puts = omega arith;
            size = l ∙ s;
            counts = omega (arith, g.on o, st.counts);
            all =
                joined
                ∙ ap (λ (b : Bool). take end after ++ fitting (cond b (lines_from (number + 1) (turn_of stand (drop at trace)).stand (drop (turn_of stand (drop at trace)).next (drop at trace))) []) (m - end)) o
                ∙ rw (← w, ← n, drop-drop);
          }

      -- Each turn uses something of the trace.
      pub nearer : t.more ≡ true → (at < at + t.next) × (at + t.next ≤ length trace)
      nearer h =
          let g = turn_goes stand (drop at trace) in
          let d : length (drop at trace) ≡ length trace - at = length-drop at trace in
          let n : t.next ≡ (turn_of stand (drop at trace)).next = ap (λ (x : Played). x.next) et in
          let o : (turn_of stand (drop at trace)).more ≡ true = ap (λ (x : Played). x.more) (sym et) ∙ h in
          (omega (arith, g.on o), omega (arith, g.within))

-- Zeros behind a place.
pub filled : (l : List ℕ) (n : ℕ) {z : List ℕ} → n ≤ length l → z ≡ replicate (length (take (length l - n) (drop n l))) 0
    → take n l ++ (z ++ drop (length l - n) (drop n l)) ≡ take n l ++ replicate (length l - n) 0
filled l n h e =
    let none : drop (length l - n) (drop n l) ≡ [] = drop_of_length-le (drop n l) (rw length-drop (omega arith)) in
    let all : length (take (length l - n) (drop n l)) ≡ length l - n = length-take-le (length l - n) (drop n l) (rw length-drop (omega arith)) in
    rw (e, none, append-nil, all)

-- The lines, and then zeros.
pub replayed : {trace : List ℕ} {m : ℕ} {lined after : List ℕ} {count : ℕ} → Lined trace m lined count → length lined ≡ m
    → after ≡ take count lined ++ replicate (length lined - count) 0 → Replays trace m after count
replayed {trace} {m} {lined} {after} {count} l s e =
    let n : length (take count lined) ≡ count = length-take-le count lined (omega (arith, l.within)) in
    let c : count ≡ length (fitting (lines_of trace) m) = sym n ∙ ap length l.holds in
    record { says = c; then = e ∙ rw (l.holds, s, c) }
