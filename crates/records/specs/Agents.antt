-- What the rules ask of an agent's record, and the one place for each kind of change to it. Assumes nothing.
use Rattle.std.specs.Prelude.{ℕ, Bool, true, false, not, ◌&&◌, ◌||◌, eqb, Option, Some, None}
use Rattle.records.specs.declared.AgentNo.{AgentNo}
use Rattle.records.specs.declared.SiteNo.{SiteNo}
use Rattle.records.specs.declared.Phase.{Phase}
use Rattle.records.specs.declared.Phase.TheVariants.{Free, Spawning, Born, Enrolled, Asking, Granted, Landed, Booked}
use Rattle.records.specs.declared.Agent.{Agent}
use Rattle.records.specs.Numbers.{agent_no, site_no}

-- a phase's place in the list of phases: free, spawning, born, enrolled, asking, granted, landed, booked
abbrev pub phase_kind : Phase → ℕ
phase_kind Free = 0
phase_kind (Spawning c) = 1
phase_kind (Born p) = 2
phase_kind (Enrolled p) = 3
phase_kind (Asking u) = 4
phase_kind (Granted u) = 5
phase_kind Landed = 6
phase_kind Booked = 7

abbrev pub is_free : Phase → Bool
is_free p = eqb (phase_kind p) 0

abbrev pub is_spawning : Phase → Bool
is_spawning p = eqb (phase_kind p) 1

abbrev pub is_born : Phase → Bool
is_born p = eqb (phase_kind p) 2

abbrev pub is_enrolled : Phase → Bool
is_enrolled p = eqb (phase_kind p) 3

abbrev pub is_asking : Phase → Bool
is_asking p = eqb (phase_kind p) 4

abbrev pub is_granted : Phase → Bool
is_granted p = eqb (phase_kind p) 5

abbrev pub is_landed : Phase → Bool
is_landed p = eqb (phase_kind p) 6

abbrev pub is_booked : Phase → Bool
is_booked p = eqb (phase_kind p) 7

-- a child that its parent's creation still waits for
abbrev pub is_child : Phase → Bool
is_child p = is_born p || is_enrolled p

-- a move that the lock is held for
abbrev pub is_moving : Phase → Bool
is_moving p = is_granted p || is_landed p

-- the agent that a phase names: the child of a spawning agent, the parent of a born or enrolled one
abbrev pub peer_of : Phase → AgentNo
peer_of Free = agent_no 0
peer_of (Spawning c) = c
peer_of (Born p) = p
peer_of (Enrolled p) = p
peer_of (Asking u) = agent_no 0
peer_of (Granted u) = agent_no 0
peer_of Landed = agent_no 0
peer_of Booked = agent_no 0

-- the site that a phase names: the target of an asking or granted agent
abbrev pub target_of : Phase → SiteNo
target_of Free = site_no 0
target_of (Spawning c) = site_no 0
target_of (Born p) = site_no 0
target_of (Enrolled p) = site_no 0
target_of (Asking u) = u
target_of (Granted u) = u
target_of Landed = site_no 0
target_of Booked = site_no 0

abbrev pub is_mapped : Option SiteNo → Bool
is_mapped None = false
is_mapped (Some s) = true

abbrev pub map_site : Option SiteNo → SiteNo
map_site None = site_no 0
map_site (Some s) = s

-- the empty filling of the room for agents
abbrev pub empty_agent : Agent
empty_agent = record { site = site_no 0; phase = Free; map = None }

abbrev pub is_empty_agent : Agent → Bool
is_empty_agent x = eqb x.site.0 0 && (is_free x.phase && not (is_mapped x.map))

-- an agent as it is born: at its parent's site, unmapped
abbrev pub born_of : AgentNo → SiteNo → Agent
born_of p s = record { site = s; phase = Born p; map = None }

-- the same agent in another phase
abbrev pub with_phase : Agent → Phase → Agent
with_phase x p = record { site = x.site; phase = p; map = x.map }

-- the same agent at another site
abbrev pub moved_to : Agent → SiteNo → Agent
moved_to x s = record { site = s; phase = x.phase; map = x.map }

-- the same agent, with the site it stands at as its map entry
abbrev pub mapped_here : Agent → Agent
mapped_here x = record { site = x.site; phase = x.phase; map = Some x.site }
