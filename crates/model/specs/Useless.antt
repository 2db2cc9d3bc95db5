-- Document 01, "What the statements have to shut out": builds that would be useless, whatever else they do.
use Rattle.model.specs.declared.Refusal.{Refusal}
use Rattle.std.specs.Prelude.{ℕ, ◌≡◌, true, List}
use Rattle.address.specs.declared.Address.{Address}
use Rattle.message.specs.declared.TransactionId.{TransactionId}
use Rattle.model.specs.World.{World}
use Rattle.model.specs.Says.{Said, says}
use Rattle.model.specs.Worked.{peer, request, settings, start, figures}
use Rattle.model.specs.declared.Call.{Call}
use Rattle.model.specs.declared.Call.TheVariants as call
use Rattle.model.specs.declared.Answer.TheVariants as answer

-- A build: what it answers and leaves at each call. It meets the promise where that is what the model says.
abbrev pub Build : Type 0
Build = World → Call → List ℕ → Said

abbrev pub Meets : ℕ → Build → Type 0
Meets rows b = (w : World) (c : Call) (m : List ℕ) → b w c m ≡ says rows w c m

-- No transmission is handed out at a call.
abbrev pub HandsNothingOut : Said → Type 0
HandsNothingOut s = (id : TransactionId) (to : Address) (row len : ℕ) → s.answer ≡ answer.Send id to row len → ⊥

-- An agent with statistics, and its first request.
abbrev pub counting : World
counting = start 32 64 true (settings 500 2 8000)

pub data Useless (b : Build) : Type 0 where
  -- "one that refuses everything"
  refuses_everything : ((w : World) (c : Call) (m : List ℕ) → (q : Refusal) × ((b w c m).answer ≡ answer.Refused q)) → Useless b
  -- "one that always says wait"
  always_says_wait : ((w : World) (now : ℕ) (m : List ℕ) → (clock : ℕ) × ((b w (call.Poll now) m).answer ≡ answer.Wait clock)) → Useless b
  -- "or never sends"
  never_sends : ((w : World) (c : Call) (m : List ℕ) → HandsNothingOut (b w c m)) → Useless b
  -- "one that does nothing"
  does_nothing : ((w : World) (c : Call) (m : List ℕ) → (b w c m).world ≡ w) → Useless b
  -- "one that sends the first time and only moves the step count later"
  only_moves_the_count : ((w : World) (now : ℕ) (m : List ℕ) → HandsNothingOut (b w (call.PollTransmit now) m)) → Useless b
  -- "invented counters": a request of 20 bytes counts as one request and 20 bytes, and as nothing else
  invents_counters : ((b counting (call.SendRequest (peer 9) 0) (request 1)).world.stats ≡ figures 1 0 0 0 20 0 → ⊥) → Useless b
