-- The words of a process, and what it ends with.
use Rattle.std.specs.Prelude.{◌≡◌, ◌≢◌, ◌⊎◌, ℕ, List, [], drop, map, String, string_bytes}
use Rattle.std.specs.declared.option.Option.{Option}
use Rattle.std.specs.declared.result.Result.{Result}
use Rattle.std.specs.declared.result.Result.TheVariants.{Ok, Err}
use Rattle.std.specs.declared.io.Error.{Error}
use Rattle.std.specs.declared.io.ErrorKind.TheVariants.{OutOfMemory}
use Rattle.std.specs.IoError.{error_kind}
use Rattle.std.specs.declared.vec.IntoIter.{IntoIter}
use Rattle.std.specs.Vec.Iter.{into_iter_items}
use Rattle.std.specs.declared.process.ExitCode.{ExitCode}
use Rattle.std.specs.Process.{exit_status}
use Rattle.pat_ports.specs.declared.reach.Reach.{Reach}
use Rattle.pat_front.specs.exit_answers.Statuses.{status_code}
use Rattle.pat_front.specs.declared.exit_answers.status.Status.{Status}
use Rattle.pat_front.specs.declared.exit_answers.status.Status.TheVariants.{NoMemory}
use Rattle.pat_session.specs.Allowed.{AsksInput}
use Rattle.pat_session.specs.Promises.{PromisesOf}

-- these are all arguments that a process was given, or none where one of them isn't text
abbrev pub AreArguments : {Z : Type 0} → Result (IntoIter (String Z) Z) Error → List (String Z) → Type 0
AreArguments (Ok given) all = all ≡ into_iter_items given
AreArguments (Err error) all = (all ≡ []) × (error_kind error ≢ OutOfMemory)

-- its words: all of them but the first, which is its name
abbrev pub GivesWords : {Z : Type 0} → Result (IntoIter (String Z) Z) Error → List (List ℕ) → Type 0
GivesWords {Z} given words = (all : List (String Z)) × AreArguments given all × (words ≡ map string_bytes (drop 1 all))

-- only with these arguments may a process end before its call: memory may be wanting for them
abbrev pub MayLackMemory : {Z : Type 0} → Result (IntoIter (String Z) Z) Error → Type 0
MayLackMemory (Ok given) = Unit {0}
MayLackMemory (Err error) = error_kind error ≡ OutOfMemory

-- there was no memory for the words, and nothing was read and written; or it ends with the status of one call on its words
abbrev pub ExitsOf : {S K Z : Type 0} → (S → Option (List ℕ)) → (S → ℕ) → (S → Option Reach) → (K → Option (List ℕ)) → (K → Option (List ℕ)) → (K → ℕ) → Result (IntoIter (String Z) Z) Error → S → S → K → K → ExitCode → Type 0
ExitsOf rest read_faults reach taken handed write_faults arguments source_old source_new sink_old sink_new code =
    (MayLackMemory arguments × (exit_status code ≡ status_code NoMemory) × (source_new ≡ source_old) × (sink_new ≡ sink_old))
    ⊎ ((words : List (List ℕ))
    × (status : Status)
    × GivesWords arguments words
    × (exit_status code ≡ status_code status)
    × PromisesOf rest read_faults reach taken handed write_faults words source_old source_new sink_old sink_new status
    × ((AsksInput words → ⊥) → source_new ≡ source_old))
