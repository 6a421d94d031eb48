use Rattle.std.proofs.Common.{rules, ◌≡◌, ◌==◌, ◌+◌, ◌⊎◌, inl, inr, ◌∷◌, ◌++◌, ℕ, true, false, [], length, get_or, ap, sym, subst, ◌∙◌, arith}
use Rattle.std.proofs.lemmas.Bool.Decides.{nat_tests}
use Rattle.pat_lexer_spec.specs.Marks.{mark_bytes}
use Rattle.pat_lexer_spec.specs.Tokens.{Mark}
use Rattle.pat_lexer_spec.specs.Characters.{is_blank, is_digit}
use Rattle.pat_lexer_spec.specs.Divisions.{IsRefused, BadToken}
use Rattle.pat_lexer_laws.proofs.Classes.{is_name_front, class_other}
use Rattle.pat_lexer_laws.proofs.Faults.{no_mark}
use Rattle.pat_syntax.specs.Views.{mark_view}
use Rattle.pat_lexer.specs.fronts.Bytes.{is_other}
use Rattle.pat_lexer.specs.Progress.{Progress, Stands}
use Rattle.pat_lexer.specs.Changes.{with_token}
use Rattle.pat_lexer.specs.Reads.{progress}
use Rattle.pat_lexer.proofs.Slices.{at_first, by_first, moved}
use Rattle.pat_lexer.proofs.Between.{mark_stands, free_refused}
use Rattle.pat_lexer.proofs.reader.Reader.read_mark.Goals as goal

pub returns-in_ok-push-in-Some : goal.returns-in_ok-push-in-Some
returns-in_ok-push-in-Some c =
    let p = progress c.args.self.now in
    let bytes = c.args.text.now in
    let m = mark_view c.in-Some.mark in
    let b = get_or bytes 0 0 in
    let one : mark_bytes m ≡ b ∷ [] = c.in-Some.ensures.found in
    let longer : ℕ → Progress = λ n. with_token (record p { position = p.position + n }) (Mark m) in
    (search rules, search rules, search rules, at_first p (progress c.push.new.self) bytes c.requires.some (λ text more s. moved _ (progress c.push.new.self) text more (c.in_ok-push-in-Some.ensures.pushed ∙ ap longer (sym (ap length one))) (mark_stands p text more m c.requires.kind c.requires.characters (c.in-Some.ensures.alone more) (subst (λ l. Stands p text (l ++ more)) (sym one) s))))

no_name : (b : ℕ) → is_other b ≡ true → is_name_front b ≡ false
no_name b h = grind (arith, nat_tests)

no_blank : (b : ℕ) → is_other b ≡ true → is_blank b ≡ false
no_blank b h = grind (arith, nat_tests)

no_digit : (b : ℕ) → is_other b ≡ true → is_digit b ≡ false
no_digit b h = grind (arith, nat_tests)

no_quote : (b : ℕ) → is_other b ≡ true → (b == 34) ≡ false
no_quote b h = grind (arith, nat_tests)

no_slash : (b : ℕ) → is_other b ≡ true → (b == 47) ≡ false
no_slash b h = grind (arith, nat_tests)

no_longer : (b : ℕ) → is_other b ≡ true → (b ≡ 61) ⊎ (b ≡ 45) → ⊥
no_longer b h (inl e) = grind (arith, nat_tests)
no_longer b h (inr e) = grind (arith, nat_tests)

pub returns-in-None : goal.returns-in-None
returns-in-None c =
    let p = progress c.args.self.now in
    let bytes = c.args.text.now in
    let b = get_or bytes 0 0 in
    let h = c.requires.other in
    by_first p (λ text. IsRefused text (BadToken p.position)) bytes c.requires.some (λ text more s. free_refused p text (b ∷ more) c.requires.kind c.requires.characters (λ e. let no : ⊥ = cc in no) (no_mark b more (class_other b (no_name b h) (no_blank b h) (no_digit b h) (no_quote b h) (no_slash b h)) (λ m rest e. no_longer b h (c.in-None.ensures.none m rest e))) s)
