-- `script::run` meets its contract.
use borrow.Author.Tests.{le-leb, lt-leb}
use Rattle.program.specs.Running.{run_of}
use Rattle.program.proofs.Runs.{came-put}
use Rattle.script.proofs.run.Goals as goal

pub returns-then-input-gt-MOST_INPUT : goal.returns-then-input-gt-MOST_INPUT
unfolding run_of
returns-then-input-gt-MOST_INPUT c =
    rw (lt-leb _ _ c.if-input-gt-MOST_INPUT.true) (came-put c.put_text.ensures)

pub returns : goal.returns
unfolding run_of
returns c = rw (le-leb _ _ c.if-input-gt-MOST_INPUT.false) c.run_lines.ensures
