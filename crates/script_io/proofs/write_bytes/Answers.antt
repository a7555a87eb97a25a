-- What a write took is joined to what was written before.
use Rattle.std.proofs.Common.{◌+◌, ◌++◌, length, take, drop, ap, ◌∙◌, sym, subst, arith, length-drop}
use Rattle.std.proofs.lemmas.List.{take_rest}
use Rattle.std.proofs.Math.Seq.{take-add, drop-drop}
use Rattle.std.specs.Io.KnownBytes.{Appends}
use Rattle.std.proofs.KnownBytes.{Appends-trans}
use Rattle.script_io.proofs.write_bytes.Goals as goal

pub loop-rest-preserved : goal.loop-rest-preserved
loop-rest-preserved g c =
    let bytes = c.args.bytes.now in
    let (done, within, before, left) = c.loop-rest.invariant in
    let count = c.in_ok-count.count in
    let wrote = c.in_ok-count.ensures in
    let both = Appends-trans _ _ _ _ _ before wrote.bytes in (
      done + count,
      omega (arith, within, wrote.bound, ap length left, length-drop done bytes),
      subst (Appends _ _) (ap (λ xs. take done bytes ++ take count xs) left ∙ sym (take-add done count bytes)) both,
      take_rest _ count ∙ ap (drop count) left ∙ drop-drop count done bytes,
    )
