-- A phase and a status are what their kind and the number that they name say. So a passed test of a rule gives the very
-- phase or status, in the terms that the rule goes on with.
use Rattle.std.proofs.Common.{◌≡◌, ap, sym, ◌∙◌, ◌⊎◌, inl, inr, true, not, true≢false}
use Rattle.std.proofs.lemmas.Bool.{not-true}
use Rattle.records.specs.declared.AgentNo.{AgentNo}
use Rattle.records.specs.declared.Phase.{Phase}
use Rattle.records.specs.declared.Phase.TheVariants.{Free, Born, Enrolled, Asking, Granted, Landed, Booked}
use Rattle.records.specs.declared.Status.{Status}
use Rattle.records.specs.declared.Status.TheVariants.{Queued, Out, Handed}
use Rattle.records.specs.Agents.{peer_of, target_of, is_free, is_born, is_enrolled, is_asking, is_granted, is_landed, is_booked, is_child}
use Rattle.records.specs.Messages.{travels_to, is_queued, is_out, is_handed}
use Rattle.records.proofs.ReaderLaws.{phase-is, status-is}

pub free-is : (p : Phase) → is_free p ≡ true → p ≡ Free
free-is p e = phase-is 0 p e

pub born-is : (p : Phase) → is_born p ≡ true → p ≡ Born (peer_of p)
born-is p e = phase-is 2 p e

pub enrolled-is : (p : Phase) → is_enrolled p ≡ true → p ≡ Enrolled (peer_of p)
enrolled-is p e = phase-is 3 p e

pub asking-is : (p : Phase) → is_asking p ≡ true → p ≡ Asking (target_of p)
asking-is p e = phase-is 4 p e

pub granted-is : (p : Phase) → is_granted p ≡ true → p ≡ Granted (target_of p)
granted-is p e = phase-is 5 p e

pub landed-is : (p : Phase) → is_landed p ≡ true → p ≡ Landed
landed-is p e = phase-is 6 p e

pub booked-is : (p : Phase) → is_booked p ≡ true → p ≡ Booked
booked-is p e = phase-is 7 p e

-- an agent that passes the test for a sender is nobody's child
pub up_is : (p : Phase) → not (is_child p) ≡ true → (q : AgentNo) → (p ≡ Born q) ⊎ (p ≡ Enrolled q) → ⊥
up_is p e q (inl h) = true≢false (sym (ap is_child h) ∙ not-true (is_child p) e)
up_is p e q (inr h) = true≢false (sym (ap is_child h) ∙ not-true (is_child p) e)

pub queued-is : (x : Status) → is_queued x ≡ true → x ≡ Queued
queued-is x e = status-is 0 x e

pub out-is : (x : Status) → is_out x ≡ true → x ≡ Out (travels_to x)
out-is x e = status-is 1 x e

pub handed-is : (x : Status) → is_handed x ≡ true → x ≡ Handed
handed-is x e = status-is 2 x e
