use Rattle.std.proofs.Common.{◌≡◌, ◌<◌, ℕ, zero, suc, drop, refl, ap, sym, ◌∙◌, arith}
use Rattle.std.specs.Str.{valid_up_to}
use Rattle.std.specs.Str.Lossy.{utf8_error_len}
use Rattle.pat_lexer_laws.proofs.Broken.{broken}
use Rattle.pat_lexer.proofs.Cuts.{cut_whole, cut_none, cut_front, cut_length, scalar_front}
use Rattle.pat_lexer.proofs.fronts.character.front_of.Goals as goal

-- the bytes before a fault are none
no_front : (n : ℕ) → (0 < n → ⊥) → n ≡ 0
no_front zero h = refl
no_front (suc n) h = absurd (h (omega arith))

pub returns-in-Some : goal.returns-in-Some
returns-in-Some c = λ cut.
    let bytes = c.args.bytes.now in
    let split = sym c.in-Ok.ensures.cases.0 ∙ sym c.chars.ensures.rest ∙ c.in-Some.ensures.steps.0 in
    let scalar = scalar_front bytes c.next.new.self.rest.now c.in-Some.character c.in-Ok.ensures.cases.1 split in
    (scalar, cut_whole bytes c.next.new.self.rest.now c.in-Some.character cut scalar split)

pub returns-in-Some-error_len : goal.returns-in-Some-error_len
returns-in-Some-error_len c = λ cut more.
    let e = c.in-Err.ensures.cases in
    let none : valid_up_to c.in-Err.error ≡ 0 = no_front (valid_up_to c.in-Err.error) (λ some. cut_front c.args.bytes.now (valid_up_to c.in-Err.error) cut e.0 e.1.front some) in
    broken c.args.bytes.now more c.in-Some-error_len.field-0 (sym (c.in-Some-error_len.ensures ∙ c.in-Err.ensures.fault ∙ ap (λ n. utf8_error_len (drop n c.args.bytes.now)) none)) cut.high (cut_none c.args.bytes.now cut e.0)

pub returns-in-None-error_len : goal.returns-in-None-error_len
returns-in-None-error_len c = λ cut.
    let e = c.in-Err.ensures.cases in
    let none : valid_up_to c.in-Err.error ≡ 0 = no_front (valid_up_to c.in-Err.error) (λ some. cut_front c.args.bytes.now (valid_up_to c.in-Err.error) cut e.0 e.1.front some) in
    record { some = cut_length c.args.bytes.now cut; none_whole = cut_none c.args.bytes.now cut e.0; sound = sym (c.in-None-error_len.ensures ∙ c.in-Err.ensures.fault ∙ ap (λ n. utf8_error_len (drop n c.args.bytes.now)) none) }
