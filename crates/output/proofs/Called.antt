-- What holds of a sequence of steps holds of what a caller of the methods gets.
use Rattle.std.proofs.Common.{ℕ, ◌≡◌, refl, ap, ◌∙◌, List}
use Rattle.records.specs.declared.Code.TheVariants.{Done}
use Rattle.rules.specs.declared.Step.{Step}
use Rattle.rules.specs.Steps.{open_of}
use Rattle.table.specs.declared.Table.{Table}
use Rattle.table.specs.declared.Answer.{Answer}
use Rattle.table.specs.Face.{open_table, step_table}
use Rattle.order.specs.Marks.{table_after}
use Rattle.order.specs.Demand.{AllInOrder}
use Rattle.order.proofs.InOrder.{from-opening}
use Rattle.output.specs.Callers.{Calls, stop, call}

-- no other table fits the contracts than the one after the steps
pub called-after : {t last : Table} {ss : List Step} → Calls t ss last → last.state ≡ table_after t.state ss
unfolding table_after step_table
called-after stop = refl
called-after (call {ss = ss} r e c) = called-after c ∙ ap (λ (x : Answer). table_after x.table.state ss) e

-- a caller who opened a table and took any steps
pub caller-in-order :
    (sites : ℕ)
    → (open_table sites).code ≡ Done
    → (ss : List Step) (last : Table)
    → Calls (open_table sites).table ss last
    → AllInOrder (open_of sites).state ss × (last.state ≡ table_after (open_of sites).state ss)
unfolding open_table
caller-in-order sites h ss last c = (from-opening sites h ss, called-after c)
