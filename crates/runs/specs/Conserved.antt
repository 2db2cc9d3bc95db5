-- Document 01, "The agent": "From a fresh agent with statistics on, without reset or outside writes and below the stops, requests sent
-- equal responses received + timed out + cancelled + still in the table. Cancelled counts when poll reports it."
use Rattle.std.specs.Prelude.{◌+◌, ◌-◌, ◌^◌, ◌<◌, ◌≡◌, List, length}
use Rattle.stats.specs.declared.StunAgentStats.{StunAgentStats}
use Rattle.model.specs.World.{World}
use Rattle.runs.specs.Counts.{Exchange, requests_sent, responses_received, timed_out, cancelled, total}

-- Over the calls and answers of any run, statistics on or off, with a reset or without: the numbers themselves, which have no stop.
abbrev pub Balanced : List Exchange → World → Type 0
Balanced l w =
    total requests_sent l ≡ total responses_received l + total timed_out l + total cancelled l + length w.requests

-- Of the record. The three numbers that are taken from the requests sent are no more than those, so that one stop is enough.
abbrev pub BelowStop : StunAgentStats → Type 0
BelowStop s = s.requests_sent < 2 ^ 64 - 1

abbrev pub Conserved : World → Type 0
Conserved w =
    w.stats.requests_sent
    ≡ w.stats.responses_received + w.stats.transactions_timed_out + w.stats.transactions_cancelled + length w.requests
