use Rattle.std.proofs.Common.{rules, ◌≡◌, ◌++◌, ℕ, List, [], take, drop, ap, sym, ◌∙◌, append-nil}
use Rattle.pat_lexer.specs.declared.unfinished.Unfinished.TheVariants.{Name}
use Rattle.pat_lexer.specs.Reads.{progress}
use Rattle.pat_lexer.proofs.Slices.{at_run, moved, run_name}
use Rattle.pat_lexer.proofs.Between.{piece_stands}
use Rattle.pat_lexer.proofs.reader.Reader.read_first_name.Goals as goal

all_held : (held own character : List ℕ) → held ≡ [] → character ≡ [] → held ++ own ≡ own ++ character
all_held held own character h e = ap (λ l. l ++ own) h ∙ sym (append-nil own) ∙ ap (λ l. own ++ l) (sym e)

pub returns-in_ok-open : goal.returns-in_ok-open
returns-in_ok-open c =
    let p = progress c.args.self.now in
    let bytes = c.args.text.now in
    let n = c.name_run-n.result in
    let own = take n bytes in
    (search rules, search rules, search rules, at_run p (progress c.open.new.self) bytes n (λ text more s. moved _ (progress c.open.new.self) text (drop n bytes ++ more) c.in_ok-open.ensures.opened (piece_stands p text own (drop n bytes ++ more) Name c.requires.kind c.requires.characters (λ held empty. (run_name bytes n c.requires.some c.requires.start c.name_run-n.ensures, all_held p.held own p.character held c.requires.characters, empty)) s)))
