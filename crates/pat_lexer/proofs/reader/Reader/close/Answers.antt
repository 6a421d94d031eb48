use Rattle.std.proofs.Common.{◌≡◌, ◌≤◌, ℕ, pos, subst, arith, rules}
use Rattle.std.proofs.lemmas.Int.{ints}
use mir.Val.{to_z}
use mir.Syntax.{w64}
use Rattle.pat_lexer.specs.Ends.{EndsAt}
use Rattle.pat_lexer.specs.Reads.{progress}
use Rattle.pat_lexer.proofs.Slices.{moved}
use Rattle.pat_lexer.proofs.Inside.{integer_closes, equals_closes, minus_closes, comment_closes}
use Rattle.pat_lexer.proofs.Endings.{ok_then, ends_integer, ends_equals, ends_minus, ends_comment, string_ends, escape_ends, slash_ends}
use Rattle.pat_lexer.proofs.reader.Reader.close.Goals as goal

positive : (n : ℕ) → n ≤ 9223372036854775807 → to_z w64 n ≡ pos n
positive n h = omega (arith, ints)

pub returns-in-Integer-clause-closed : goal.returns-in-Integer-clause-closed
returns-in-Integer-clause-closed c =
    let p = progress c.args.self.now in
    let narrow : c.args.self.now.number ≤ 9223372036854775807 = search rules in
    ok_then c.push.result _ _ c.push.ensures.pushed (λ _ e text rest at s. moved _ (progress c.push.new.self) text rest e (integer_closes p text rest _ c.in-Integer.is c.requires.characters (ends_integer rest (subst (λ u. EndsAt u rest) c.in-Integer.is at)) (positive p.number narrow) s))

pub returns-in-Equals-clause-closed : goal.returns-in-Equals-clause-closed
returns-in-Equals-clause-closed c =
    let p = progress c.args.self.now in
    ok_then c.push-in-Equals.result _ _ c.push-in-Equals.ensures.pushed (λ _ e text rest at s. moved _ (progress c.push-in-Equals.new.self) text rest e (equals_closes p text rest c.in-Equals.is c.requires.characters (ends_equals rest (subst (λ u. EndsAt u rest) c.in-Equals.is at)) s))

pub returns-in-Minus-clause-closed : goal.returns-in-Minus-clause-closed
returns-in-Minus-clause-closed c =
    let p = progress c.args.self.now in
    ok_then c.push-in-Minus.result _ _ c.push-in-Minus.ensures.pushed (λ _ e text rest at s. moved _ (progress c.push-in-Minus.new.self) text rest e (minus_closes p text rest c.in-Minus.is c.requires.characters (ends_minus rest (subst (λ u. EndsAt u rest) c.in-Minus.is at)) s))

pub returns-in-Comment-clause-closed : goal.returns-in-Comment-clause-closed
returns-in-Comment-clause-closed c = λ text rest at s.
    comment_closes (progress c.args.self.now) text rest c.in-Comment.is c.requires.characters (ends_comment rest (subst (λ u. EndsAt u rest) c.in-Comment.is at)) s

pub returns-in-Str-clause-refused : goal.returns-in-Str-clause-refused
returns-in-Str-clause-refused c = λ text rest at s.
    string_ends (progress c.args.self.now) text rest c.in-Str.is c.requires.characters (subst (λ u. EndsAt u rest) c.in-Str.is at) s

pub returns-in-Escape-clause-refused : goal.returns-in-Escape-clause-refused
returns-in-Escape-clause-refused c = λ text rest at s.
    escape_ends (progress c.args.self.now) text rest c.in-Escape.is c.requires.characters (subst (λ u. EndsAt u rest) c.in-Escape.is at) s

pub returns-in-Slash-clause-refused : goal.returns-in-Slash-clause-refused
returns-in-Slash-clause-refused c = λ text rest at s.
    slash_ends (progress c.args.self.now) text rest c.in-Slash.is c.requires.characters (subst (λ u. EndsAt u rest) c.in-Slash.is at) s
