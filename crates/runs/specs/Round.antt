-- A round, as demand 3 says it: "a round, at one clock, takes transmissions until none is left, then polls until told to wait". A run in
-- which transmissions and polls stand only in rounds, and "the first with more rounds between calls".
use Rattle.std.specs.Prelude.{ℕ, ◌≡◌, Bool, true, false, List, [], ◌∷◌, ◌++◌}
use Rattle.model.specs.World.{World}
use Rattle.model.specs.Calls.{Kind, carries, scans, names, meets, counts, on_some}
use Rattle.model.specs.Runs.{Turn, plain}
use Rattle.model.specs.declared.Call.TheVariants as call
use Rattle.model.specs.declared.Answer.{Answer}
use Rattle.model.specs.declared.Answer.TheVariants as answer
use Rattle.runs.specs.Answers.{timed_out_in, cancelled_in}
use Rattle.runs.specs.Run.{kind_in, said, hands_out}

-- The two calls of a round.
abbrev pub transmission : ℕ → Turn
transmission now = plain (call.PollTransmit now)

abbrev pub poll : ℕ → Turn
poll now = plain (call.Poll now)

-- An answer reports the end of a request.
abbrev pub is_report : Answer → Bool
is_report a = on_some (timed_out_in a) (on_some (cancelled_in a) false (λ id. true)) (λ id. true)

-- "Takes transmissions until none is left": the calls, and the world after them.
pub data Transmits (rows now : ℕ) : World → List Turn → World → Type 0 where
  none_left : {w : World} → (said rows w (transmission now)).answer ≡ answer.None → Transmits rows now w (transmission now ∷ []) (said rows w (transmission now)).world
  one_more : {w v : World} {ts : List Turn} → hands_out (said rows w (transmission now)).answer ≡ true
      → Transmits rows now (said rows w (transmission now)).world ts v
      → Transmits rows now w (transmission now ∷ ts) v

-- "Then polls until told to wait": the calls, the world after them, and the clock to wait for.
pub data Polls (rows now : ℕ) : World → List Turn → World → ℕ → Type 0 where
  told_to_wait : {w : World} {clock : ℕ} → (said rows w (poll now)).answer ≡ answer.Wait clock → Polls rows now w (poll now ∷ []) (said rows w (poll now)).world clock
  one_report : {w v : World} {ts : List Turn} {clock : ℕ} → is_report (said rows w (poll now)).answer ≡ true
      → Polls rows now (said rows w (poll now)).world ts v clock
      → Polls rows now w (poll now ∷ ts) v clock

pub data Round (rows now : ℕ) (w : World) : List Turn → World → ℕ → Type 0 where
  round : {v u : World} {ts ps : List Turn} {clock : ℕ} → Transmits rows now w ts v → Polls rows now v ps u clock → Round rows now w (ts ++ ps) u clock

-- What a host does: a call, or a round at a clock.
pub data Step : Type 0 where
  calls : Turn → Step
  plays : ℕ → Step

abbrev pub is_scan : Kind → Bool
is_scan (carries p) = false
is_scan (scans s now) = true
is_scan (names id wish) = false
is_scan (meets addr m) = false
is_scan (counts f) = false

-- The run of such steps from a world: "transmissions and polls only in rounds".
pub data Runs (rows : ℕ) : World → List Step → List Turn → Type 0 where
  ends : {w : World} → Runs rows w [] []
  then_call : {w : World} {t : Turn} {ss : List Step} {ts : List Turn} → is_scan (kind_in t) ≡ false → Runs rows (said rows w t).world ss ts
      → Runs rows w (calls t ∷ ss) (t ∷ ts)
  then_round : {w u : World} {now clock : ℕ} {rs ts : List Turn} {ss : List Step} → Round rows now w rs u clock → Runs rows u ss ts
      → Runs rows w (plays now ∷ ss) (rs ++ ts)

-- "The second run being the first with more rounds between calls."
pub data MoreRounds : List Step → List Step → Type 0 where
  no_more : MoreRounds [] []
  shared : {s : Step} {ss zs : List Step} → MoreRounds ss zs → MoreRounds (s ∷ ss) (s ∷ zs)
  extra : {now : ℕ} {ss zs : List Step} → MoreRounds ss zs → MoreRounds ss (plays now ∷ zs)
