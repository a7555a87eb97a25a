-- How much a table holds at most. Assumes nothing.
use Rattle.std.specs.Prelude.{ℕ}

-- the limits: 16 sites, 64 agents, 512 messages
abbrev pub most_sites : ℕ
most_sites = 16

abbrev pub most_agents : ℕ
most_agents = 64

abbrev pub most_messages : ℕ
most_messages = 512
