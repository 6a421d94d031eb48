use Rattle.std.proofs.Common.{ℕ, List, ◌++◌, ap, sym, subst, ◌∙◌}
use Rattle.pat_lexer.specs.Progress.{Progress}
use Rattle.pat_lexer.specs.Explains.{Explains}
use Rattle.pat_lexer.specs.Reads.{progress, refusal_in}
use Rattle.pat_lexer.proofs.Slices.{moved}
use Rattle.pat_lexer.proofs.Characters.{judged_refused, no_more_char, name_goes_on, NotTaken}
use Rattle.pat_lexer.proofs.reader.Reader.accept_in_name.Goals as goal

pub returns-then-not-is_xid_continue-clause-refused : goal.returns-then-not-is_xid_continue-clause-refused
returns-then-not-is_xid_continue-clause-refused c = λ f text more j.
    let p = progress c.args.self.now in
    let taken : NotTaken p.unfinished (p.character ++ more) = subst (λ u. NotTaken u (p.character ++ more)) (sym c.requires.kind) (no_more_char p more c.args.character f.1 (sym c.is_xid_continue.ensures.value ∙ c.if-not-is_xid_continue.true)) in
    subst (λ u. Explains text (refusal_in u p.start p.character_start)) c.requires.kind (judged_refused p text more j taken)

pub returns-clause-taken : goal.returns-clause-taken
returns-clause-taken c = λ f text more j.
    let p = progress c.args.self.now in
    let cleared : List ℕ → Progress = λ l. record p { character = l } in
    moved _ _ text more (ap cleared c.clear.ensures.items) (name_goes_on p text more c.args.character c.requires.kind f.0 f.1 (sym c.is_xid_continue.ensures.value ∙ c.if-not-is_xid_continue.false) j)
