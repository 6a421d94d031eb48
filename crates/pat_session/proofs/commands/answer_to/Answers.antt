use Rattle.std.proofs.Common.{subst}
use Rattle.std.specs.Prelude.{IfOk}
use Rattle.pat_command_checkpoint.specs.Allowed.{AllowedCheckpoint}
use Rattle.pat_command_resume.specs.Allowed.{AllowedResume}
use Rattle.pat_session.specs.Asking.{Asks, IsAsked}
use Rattle.pat_session.proofs.Asking.{of_check, of_derive, of_print, of_run, of_checkpoint, of_resume, of_load, check_read, derive_read, print_read, run_read, run_within, checkpoint_within, resume_within, load_within}
use Rattle.pat_session.proofs.commands.answer_to.Goals as goal

pub answer_check-requires : goal.answer_check-requires
answer_check-requires g c = check_read c.in-Check.input (subst IsAsked c.in-Check.is c.requires.asked)

pub answer_derive-requires : goal.answer_derive-requires
answer_derive-requires g c = derive_read c.in-Derive.input (subst IsAsked c.in-Derive.is c.requires.asked)

pub answer_print-requires : goal.answer_print-requires
answer_print-requires g c = print_read c.in-Print.input (subst IsAsked c.in-Print.is c.requires.asked)

pub answer_run-requires-clause-read : goal.answer_run-requires-clause-read
answer_run-requires-clause-read g c = run_read c.in-Run.options c.in-Run.input (subst IsAsked c.in-Run.is c.requires.asked)

pub answer_run-requires-clause-within : goal.answer_run-requires-clause-within
answer_run-requires-clause-within g c = run_within c.in-Run.options c.in-Run.input (subst IsAsked c.in-Run.is c.requires.asked)

pub answer_checkpoint-requires : goal.answer_checkpoint-requires
answer_checkpoint-requires g c = checkpoint_within c.in-Checkpoint.steps c.in-Checkpoint.bytes (subst IsAsked c.in-Checkpoint.is c.requires.asked)

pub answer_resume-requires : goal.answer_resume-requires
answer_resume-requires g c = resume_within c.in-Resume.steps c.in-Resume.bytes (subst IsAsked c.in-Resume.is c.requires.asked)

pub returns-in-Check : goal.returns-in-Check
returns-in-Check g c = λ command bytes asks. of_check command bytes c.answer_check.result c.in-Check.input (subst (Asks command bytes) c.in-Check.is asks) (c.answer_check.ensures bytes)

pub returns-in-Derive : goal.returns-in-Derive
returns-in-Derive g c = λ command bytes asks. of_derive command bytes c.answer_derive.result c.in-Derive.input (subst (Asks command bytes) c.in-Derive.is asks) (c.answer_derive.ensures bytes)

pub returns-in-Print : goal.returns-in-Print
returns-in-Print g c = λ command bytes asks. of_print command bytes c.answer_print.result c.in-Print.input (subst (Asks command bytes) c.in-Print.is asks) (c.answer_print.ensures bytes)

pub returns-in-Run : goal.returns-in-Run
returns-in-Run g c = λ command bytes asks. of_run command bytes c.answer_run.result c.in-Run.options c.in-Run.input (subst (Asks command bytes) c.in-Run.is asks) (c.answer_run.ensures bytes)

pub returns-in-Checkpoint : goal.returns-in-Checkpoint
returns-in-Checkpoint g c = λ command bytes asks.
    let own = subst (λ l. IfOk c.answer_checkpoint.result (λ a. AllowedCheckpoint c.in-Checkpoint.steps l a.text.items a.status)) c.as_slice-in-Checkpoint.ensures.value c.answer_checkpoint.ensures in
    of_checkpoint command bytes c.answer_checkpoint.result c.in-Checkpoint.steps c.in-Checkpoint.bytes (subst (Asks command bytes) c.in-Checkpoint.is asks) own

pub returns-in-Resume : goal.returns-in-Resume
returns-in-Resume g c = λ command bytes asks.
    let own = subst (λ l. IfOk c.answer_resume.result (λ a. AllowedResume c.in-Resume.steps l a.text.items a.status)) c.as_slice-in-Resume.ensures.value c.answer_resume.ensures in
    of_resume command bytes c.answer_resume.result c.in-Resume.steps c.in-Resume.bytes (subst (Asks command bytes) c.in-Resume.is asks) own

pub answer_load-requires-clause-few : goal.answer_load-requires-clause-few
answer_load-requires-clause-few g c = let within = load_within c.in-Load.size c.in-Load.options (subst IsAsked c.in-Load.is c.requires.asked) in within.0

pub answer_load-requires-clause-within : goal.answer_load-requires-clause-within
answer_load-requires-clause-within g c = let within = load_within c.in-Load.size c.in-Load.options (subst IsAsked c.in-Load.is c.requires.asked) in within.1

pub returns-in-Load : goal.returns-in-Load
returns-in-Load g c = λ command bytes asks. of_load command bytes c.answer_load.result c.in-Load.size c.in-Load.options (subst (Asks command bytes) c.in-Load.is asks) c.answer_load.ensures
