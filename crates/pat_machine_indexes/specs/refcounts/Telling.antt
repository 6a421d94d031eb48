-- What counts say of the mailbox that a thread may free.
use Rattle.std.specs.Prelude.{ℕ, Bool, nat_eq}
use Rattle.pat_semantics_spec.specs.Programs.{Program}
use Rattle.pat_semantics_spec.specs.Configs.{Control, Thread}
use Rattle.pat_machine_laws.specs.refcounts.Naming.{times_in_control}
use Rattle.pat_machine_laws.specs.refcounts.Counting.{count_at, is_named_by_control, is_unnamed}
use Rattle.pat_machine_indexes.specs.declared.refcounts.freed.Counted.{Counted}
use Rattle.pat_machine_indexes.specs.declared.refcounts.freed.Counted.TheVariants.{All, Others}

-- whether the counts name the mailbox no oftener than the control of the thread, where they count it
abbrev pub names_alone : Counted → Control → ℕ → Bool
names_alone (All names) k a = nat_eq (count_at names.now.times.items a) (times_in_control a k)
names_alone (Others names) k a = nat_eq (count_at names.now.times.items a) 0

-- the same of the mailbox that the thread may free, if it may free one
abbrev pub says_alone : Program → Counted → Thread → Bool
says_alone p (All names) s = is_named_by_control p names.now.times.items s
says_alone p (Others names) s = is_unnamed p names.now.times.items s
