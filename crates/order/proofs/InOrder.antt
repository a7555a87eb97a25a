-- Demand 3: from any sound table, and so from a freshly opened one, whatever the sequence of steps.
use Rattle.std.proofs.Common.{ℕ, ◌≡◌, refl, ap, List, [], ◌∷◌}
use Rattle.records.specs.declared.Code.TheVariants.{Done}
use Rattle.rules.specs.declared.State.{State}
use Rattle.rules.specs.declared.Reply.{Reply}
use Rattle.rules.specs.declared.Step.{Step}
use Rattle.rules.specs.Holding.{Shaped}
use Rattle.rules.specs.Soundness.{Sound}
use Rattle.rules.specs.Steps.{open_of, step_of}
use Rattle.rules.specs.Sessions.{last_from}
use Rattle.preservation.proofs.Keeps.{by-rule}
use Rattle.preservation.proofs.Opening.{open-good}
use Rattle.order.specs.Marks.{table_after}
use Rattle.order.specs.Boards.{Board}
use Rattle.order.specs.Demand.{AllInOrder}
use Rattle.order.proofs.AlongSteps.{reached}
use Rattle.order.proofs.AllSettled.{mail-settled, map-settled}

pub in_order : (t : State) → Shaped t → Sound t → (ss : List Step) → AllInOrder t ss
in_order t shaped sound ss =
    let r = reached t (shaped, sound) ss in
    record {
      order = r.0;
      one =
          record {
            exactly = r.1.ordered.exactly;
            once = r.1.ordered.once;
            in_time = r.1.ordered.in_time;
            finds = r.1.finds;
            count = ap (λ (w : Board). w.count) r.1.board;
            sites = λ a. ap (λ (w : Board). w.site a) r.1.board;
            inboxes = λ a. ap (λ (w : Board). w.inbox a) r.1.board;
          };
      mail = mail-settled t shaped sound ss;
      map = map-settled t shaped sound ss;
      goes_on = by-rule (table_after t ss) r.1.good.1;
    }

pub from-opening : (sites : ℕ) → (open_of sites).code ≡ Done → (ss : List Step) → AllInOrder (open_of sites).state ss
from-opening sites done ss =
    let good = open-good sites done in
    in_order (open_of sites).state good.0 good.1 ss

-- the table after a session is the one that the sessions of document 01 come to
pub same-table : (r : Reply) (ss : List Step) → table_after r.state ss ≡ last_from r ss
unfolding table_after last_from
same-table r [] = refl
same-table r (s ∷ ss) = same-table (step_of r.state s) ss
