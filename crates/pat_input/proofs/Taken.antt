-- What a source gives at two reads, one after the other.
use Rattle.std.proofs.Common.{◌≡◌, ◌≤◌, ℕ, List, ◌++◌, length, length-append, append_assoc, ap, sym, ◌∙◌, arith, Result, Ok as Done, Err as Failed}
use Rattle.std.specs.Prelude.{IfOk, Option, Some, None}
use Rattle.std.specs.Io.KnownBytes.{Consumes, IsAtEnd}
use Rattle.pat_lexer.specs.Lexed.{Lexed, HasRead}
use Rattle.pat_input.specs.declared.reading.Input.{Input}
use Rattle.pat_input.specs.declared.reading.InputError.{InputError}
use Rattle.pat_input.specs.Inputs.{IsInput, IsRead, Fed}

consumes_both : (a b c : Option (List ℕ)) (bs cs : List ℕ) → Consumes a b bs → Consumes b c cs → Consumes a c (bs ++ cs)
consumes_both None b c bs cs h k = tt
consumes_both (Some x) None c bs cs h k = absurd h
consumes_both (Some x) (Some y) None bs cs h k = absurd k
consumes_both (Some x) (Some y) (Some z) bs cs h k = h ∙ ap (λ r. bs ++ r) k ∙ sym (append_assoc bs cs z)

-- the last read gave nothing, so all was read before
pub at_end : (had before left : Option (List ℕ)) (old new : Lexed) (n total : ℕ) (r : Result Input InputError) → n ≡ 0 → total ≤ 1048576 → IsAtEnd left → ((bytes : List ℕ) × Consumes had before bytes × HasRead bytes old × (length bytes ≡ total)) → ((piece : List ℕ) × Consumes before left piece × Fed old new piece × (length piece ≡ n)) → ((bytes : List ℕ) → HasRead bytes new → length bytes ≡ total → length bytes ≤ 1048576 → IfOk r (IsRead bytes)) → IfOk r (λ input. (bytes : List ℕ) × IsInput had left bytes × IsRead bytes input)
at_end had before left old new n total (Failed e) none small end read piece is = tt
at_end had before left old new n total (Done input) none small end (bytes, taken, has, long) (piece, more, fed, short) is =
    let both = length-append bytes piece in
    let all : length (bytes ++ piece) ≡ total = omega (arith, both, long, short, none) in
    (bytes ++ piece, record { taken = consumes_both had before left bytes piece taken more; within = omega (arith, all, small); all = λ l. end }, is (bytes ++ piece) (fed bytes has) all (omega (arith, all, small)))
