use Rattle.std.proofs.Common.{rules, suc, drop, get_or, subst, false}
use Rattle.std.specs.Prelude.{Err}
use lib.Seq.{drop-cons}
use Rattle.pat_checkpoint_spec.specs.text.ValueReading.{unquoted}
use Rattle.pat_checkpoint_text.specs.Takings.{Takes}
use Rattle.pat_checkpoint_text.proofs.Unquoting.{stopped}
use Rattle.pat_checkpoint_text.proofs.strings.unquoted.Goals as goal

pub returns-in-Err-NotSpelled : goal.returns-in-Err-NotSpelled
returns-in-Err-NotSpelled c =
    let i = c.loop-byte.byte-index in
    let raw = c.args.raw.now in
    stopped c.loop-byte.own c.loop-byte.escaped (get_or raw i 0) (drop i raw) (drop (suc i) raw) (unquoted false raw)
    (subst (λ e. Takes c.loop-byte.own c.loop-byte.escaped (get_or raw i 0) c.take.new.own (Err e)) c.in-Err-NotSpelled.field-0-is c.in-Err-NotSpelled.ensures) (drop-cons raw i 0 (search rules)) c.loop-byte.invariant
