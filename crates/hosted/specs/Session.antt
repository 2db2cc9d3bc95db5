-- A host's session: it starts an agent and makes calls, one after the other, on memory that it leaves alone in between. Each step is what
-- `entry::start` and `entry::call` promise, so that what is proved of every session holds of the code. `entry::step` and `entry::door`
-- promise the same as `call`.
use Rattle.std.specs.Prelude.{ℕ, ◌≤◌, ◌≡◌, true, List, [], ◌∷◌, ◌++◌, length, Ok}
use Rattle.address.specs.declared.Address.{Address}
use Rattle.stats.specs.declared.StunAgentStats.{StunAgentStats}
use Rattle.stats.specs.declared.Event.{Event}
use Rattle.records.specs.Coding.{size}
use Rattle.model.specs.World.{World}
use Rattle.model.specs.Runs.{Turn, answers, run}
use Rattle.model.specs.declared.StunAgent.{StunAgent}
use Rattle.model.specs.declared.StunAgentBuilder.{StunAgentBuilder}
use Rattle.model.specs.declared.Answer.{Answer}
use Rattle.agent.specs.Ready.{world_of}
use Rattle.entry.specs.Entry.{Performed, Started}
use Rattle.runs.specs.Run.{kind_in, sends_by, timeouts_by}
use Rattle.runs.specs.Demand.{Start, Submission, submits}
use Rattle.runs.specs.Counts.{Exchange, seen}
use Rattle.runs.specs.Ends.{submits_it}

-- ---- the steps

-- What a host owns between two calls: the agent that it was answered, and the memory that it lends.
pub record Owned : Type 0 where
  pub agent : StunAgent
  pub table : List ℕ
  pub store : List ℕ
  pub peers : List Address
  pub stats : StunAgentStats

abbrev pub world_in : Owned → World
world_in o = world_of o.agent o.table o.store o.peers o.stats

-- A start that isn't refused, with a table that has all its rows; `was` is the statistics record before it. Of table, store and peers the
-- agent asks nothing else.
pub record Opens (b : StunAgentBuilder) (was : StunAgentStats) (o : Owned) : Type 0 where
  pub event : Event
  pub started : Started b was o.stats (Ok (o.agent, event))
  pub whole : size ≤ length o.table

-- One call. A lent slice keeps its length: that is the language's own promise, which a contract doesn't repeat.
pub record Calls (o : Owned) (t : Turn) (a : Answer) (o' : Owned) : Type 0 where
  pub performed :
      Performed o.agent t.made t.bytes o.table o.store o.peers o.stats o'.table o'.store o'.peers o'.stats
      (record { agent = o'.agent; answer = a })
  pub same_length : length o'.table ≡ length o.table

-- Calls with their messages, and their answers: each begins with what the one before it left.
pub data Serves : Owned → List Turn → List Answer → Owned → Type 0 where
  rests : {o : Owned} → Serves o [] [] o
  then_call : {o o' o'' : Owned} {t : Turn} {ts : List Turn} {a : Answer} {l : List Answer} → Calls o t a o' → Serves o' ts l o''
      → Serves o (t ∷ ts) (a ∷ l) o''

pub record Session (b : StunAgentBuilder) (was : StunAgentStats) (o : Owned) (ts : List Turn) (l : List Answer) (o' : Owned) : Type 0 where
  pub opens : Opens b was o
  pub serves : Serves o ts l o'

-- ---- what the theorems about runs are told

-- The fresh agent and the memory of a run.
abbrev pub start_of : StunAgentBuilder → StunAgentStats → Owned → Start
start_of b was o = record {
  transport = b.transport;
  stats = b.stats;
  rto = b.rto;
  store = o.store;
  peers = o.peers;
  counters = was;
}

-- The model's answers to the same calls and its world after them; and the table has all its rows still.
pub record AsModel (w : World) (ts : List Turn) (l : List Answer) (o : Owned) : Type 0 where
  pub answers_are : l ≡ answers 32 w ts
  pub world_is : world_in o ≡ run 32 w ts
  pub whole : size ≤ length o.table

-- What the host saw: each call with its answer.
abbrev pub sight : Turn → Answer → Exchange
sight t a = seen (kind_in t) t.bytes a

abbrev pub sights : List Turn → List Answer → List Exchange
sights [] l = []
sights (t ∷ ts) [] = []
sights (t ∷ ts) (a ∷ l) = sight t a ∷ sights ts l

-- The clocks at which it was handed the request x, and at which it was told that x timed out.
abbrev pub sent_in : ℕ → List Exchange → List ℕ
sent_in x [] = []
sent_in x (e ∷ l) = sends_by x e.about e.answer ++ sent_in x l

abbrev pub timed_out_at : ℕ → List Exchange → List ℕ
timed_out_at x [] = []
timed_out_at x (e ∷ l) = timeouts_by x e.about e.answer ++ timed_out_at x l

-- ---- a session with a request in it

-- Calls up to a submission, which is accepted: its answer hands out the request x. And calls after it.
pub record Submitted
    (x : ℕ) (b : StunAgentBuilder) (was : StunAgentStats) (o : Owned) (before : List Turn) (q : Submission) (later : List Turn) : Type 0 where
  pub earlier : List Answer
  pub here : Owned
  pub session : Session b was o before earlier here
  pub answer : Answer
  pub next : Owned
  pub call : Calls here (submits q) answer next
  pub accepted : submits_it x (sight (submits q) answer) ≡ true
  pub replies : List Answer
  pub last : Owned
  pub serves : Serves next later replies last

-- What the host saw from the submission on.
abbrev pub saw : {x : ℕ} {b : StunAgentBuilder} {was : StunAgentStats} {o : Owned} {before : List Turn} {q : Submission} {later : List Turn}
    → Submitted x b was o before q later → List Exchange
saw {q = q} {later = later} s = sights (submits q ∷ later) (s.answer ∷ s.replies)
