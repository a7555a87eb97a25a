-- A freshly opened table is sound, and its arrays have the lengths that every table's have.
use Rattle.std.proofs.Common.{ℕ, ◌≡◌, refl, Bool, true, false, ◌&&◌, ltb, leb, ltb-true, leb-true}
use Rattle.records.specs.declared.Code.TheVariants.{Done, BadCount}
use Rattle.records.specs.Limits.{most_sites}
use Rattle.rules.specs.Holding.{Shaped, no_state}
use Rattle.rules.specs.Answers.{unless, done}
use Rattle.rules.specs.Steps.{opened, open_of}
use Rattle.rules.proofs.Openings.{opened-sound}
use Rattle.preservation.proofs.OneAgent.{Good}

opened-shaped : (s : ℕ) → Shaped (opened s)
opened-shaped s =
    record {
      agent = refl;
      sender = refl;
      number = refl;
      addressee = refl;
      value = refl;
      status = refl;
      log = refl;
    }

-- An opening that is Done gives such a table.
pub open-good : (s : ℕ) → (open_of s).code ≡ Done → Good (open_of s).state
unfolding open_of
open-good s = told (ltb 0 s) (leb s most_sites) refl refl
  where
    told :
        (a b : Bool)
        → ltb 0 s ≡ a
        → leb s most_sites ≡ b
        → (unless (a && b) BadCount no_state (done (opened s) 0)).code ≡ Done
        → Good (unless (a && b) BadCount no_state (done (opened s) 0)).state
    told true true e f c = (opened-shaped s, opened-sound s (ltb-true 0 s e) (leb-true s most_sites f))
    told true false e f c = cc
    told false b e f c = cc
