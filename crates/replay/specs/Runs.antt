-- What a trace plays: its records with their answers and messages, their lines, and the lines that fit a buffer. Document 01, "Replay
-- program".
use Rattle.std.specs.Prelude.{Ok, ℕ, zero, suc, ◌+◌, ◌-◌, ◌≤◌, ◌≡◌, List, [], ◌∷◌, ◌++◌, Bool, true, false, cond, length, take, drop, replicate, leb, Option, None, Some, Result, Err}
use Rattle.model.specs.declared.Refusal.{Refusal}
use Rattle.model.specs.declared.Answer.{Answer}
use Rattle.address.specs.declared.Address.{Address}
use Rattle.address.specs.declared.Host.TheVariants.{V4}
use Rattle.waits.specs.Waits.{default_rto}
use Rattle.waits.specs.declared.Transport.TheVariants.{Udp}
use Rattle.stats.specs.Count.{counted, zeroed}
use Rattle.stats.specs.declared.Event.{Event}
use Rattle.model.specs.World.{World}
use Rattle.model.specs.Fresh.{fresh_agent, build_of}
use Rattle.model.specs.Says.{Said, says}
use Rattle.model.specs.declared.StunAgent.{StunAgent}
use Rattle.model.specs.declared.Call.{Call}
use Rattle.model.specs.declared.Answer.TheVariants as answer
use Rattle.record.specs.Records.{record_of}
use Rattle.record.specs.declared.Record.{Record}
use Rattle.record.specs.declared.Record.TheVariants.{Settings, Whole}
use Rattle.line.specs.Lines.{line_of}

-- Where a replay stands: whether it has an agent yet, and its world.
pub record Stand : Type 0 where
  pub on : Bool
  pub world : World

-- A place for a peer that none has taken.
abbrev pub no_peer : Address
no_peer = record { host = V4 0; port = 0 }

-- Before the first settings: an agent that no call is played on, a store of 32 rows and "64 peer places".
unfoldable pub first_world : World
first_world = record {
  agent = fresh_agent Udp false default_rto;
  requests = [];
  store = replicate 32768 0;
  peers = replicate 64 no_peer;
  stats = zeroed;
}

abbrev pub first_stand : Stand
first_stand = record { on = false; world = first_world }

-- What a record does: where the replay stands then, what its line says, how many bytes it took, and whether another may follow.
pub record Played : Type 0 where
  pub stand : Stand
  pub reply : Option Answer
  pub next : ℕ
  pub more : Bool

-- "its number, `bad` and the end"
abbrev pub stop : Stand → Played
stop st = record { stand = st; reply = None; next = 0; more = false }

-- A fresh agent in what is lent.
abbrev pub renewed : World → StunAgent → Event → World
renewed w a e = record { agent = a; requests = []; store = w.store; peers = w.peers; stats = counted e w.stats }

-- "So do refused first settings, with `refused 2` for `bad`; refused later ones keep the old agent."
abbrev pub made : Stand → Result (StunAgent × Event) Refusal → ℕ → Played
made st (Ok (a, e)) end = record { stand = record { on = true; world = renewed st.world a e }; reply = Some answer.Ok; next = end; more = true }
made st (Err q) end = record { stand = st; reply = Some (answer.Refused q); next = end; more = st.on }

abbrev pub stepped : Said → ℕ → Played
stepped said end = record { stand = record { on = true; world = said.world }; reply = Some said.answer; next = end; more = true }

-- The message of a record.
abbrev pub message_in : List ℕ → Option Record → List ℕ
message_in s None = []
message_in s (Some (Settings b end)) = []
message_in s (Some (Whole call start end)) = take (end - start) (drop start s)

-- A record, by what a call answers and leaves; "a first one that isn't kind 1" is bad.
abbrev pub turn_with : (World → Call → List ℕ → Said) → Stand → List ℕ → Option Record → Played
turn_with f st s None = stop st
turn_with f st s (Some (Settings b end)) = made st (build_of b) end
turn_with f st s (Some (Whole call start end)) = cond st.on (stepped (f st.world call (message_in s (Some (Whole call start end)))) end) (stop st)

abbrev pub turn_by : Stand → List ℕ → Option Record → Played
turn_by st s r = turn_with (λ w c m. says 32 w c m) st s r

-- The record at the start of what is left of a trace.
unfoldable pub turn_of : Stand → List ℕ → Played
turn_of st s = turn_by st s (record_of s)

pub record Step : Type 0 where
  pub read : Option Record
  pub told : Option Answer
  pub bytes : List ℕ

abbrev pub step_of : Stand → List ℕ → Step
step_of st s = record { read = record_of s; told = (turn_of st s).reply; bytes = message_in s (record_of s) }

-- What is left of a trace plays this. The number is fuel; the length of the trace is enough (proofs/Steps).
unfoldable pub steps_in : ℕ → Stand → List ℕ → List Step
steps_in zero st s = []
steps_in (suc n) st [] = []
steps_in (suc n) st (b ∷ s) =
    step_of st (b ∷ s) ∷ cond (turn_of st (b ∷ s)).more (steps_in n (turn_of st (b ∷ s)).stand (drop (turn_of st (b ∷ s)).next (b ∷ s))) []

unfoldable pub steps_of : List ℕ → List Step
steps_of trace = steps_in (length trace) first_stand trace

-- "One line a record: its number from 1"
unfoldable pub numbered : ℕ → List Step → List (List ℕ)
numbered n [] = []
numbered n (x ∷ xs) = line_of n x.told ∷ numbered (n + 1) xs

unfoldable pub lines_of : List ℕ → List (List ℕ)
lines_of trace = numbered 1 (steps_of trace)

-- "It stops before a line that wouldn't fit whole": the first lines of a list that fit into m bytes, one behind the other.
unfoldable pub fitting : List (List ℕ) → ℕ → List ℕ
fitting [] m = []
fitting (l ∷ ls) m = cond (leb (length l) m) (l ++ fitting ls (m - length l)) []

-- The lines that fit stand at the start of a buffer of m bytes.
pub record Lined (trace : List ℕ) (m : ℕ) (after : List ℕ) (count : ℕ) : Type 0 where
  pub within : count ≤ m
  pub holds : take count after ≡ fitting (lines_of trace) m

-- The count, and every byte of the buffer: "the rest is zeros".
pub record Replays (trace : List ℕ) (m : ℕ) (after : List ℕ) (count : ℕ) : Type 0 where
  pub says : count ≡ length (fitting (lines_of trace) m)
  pub then : after ≡ fitting (lines_of trace) m ++ replicate (m - length (fitting (lines_of trace) m)) 0
