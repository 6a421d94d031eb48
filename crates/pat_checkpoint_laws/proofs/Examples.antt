-- Lines that are read, and lines that aren't.
use Rattle.std.proofs.Common.{◌≡◌, List, [], ◌∷◌, ◌++◌, ℕ, refl}
use Rattle.std.specs.Prelude.{Some, None, codes, pos, negsuc}
use Rattle.pat_semantics_spec.specs.Values.{BaseUnit, Plain, UnitConst, IntConst, Const, Mailbox, Literal}
use Rattle.pat_semantics_spec.specs.Programs.{Program, Node, Val}
use Rattle.pat_semantics_spec.specs.Configs.{Returned}
use Rattle.pat_checkpoint_spec.specs.text.Outside.{pieces_outside}
use Rattle.pat_checkpoint_spec.specs.text.Integers.{read_integer}
use Rattle.pat_checkpoint_spec.specs.text.ValueReading.{read_values, read_env}
use Rattle.pat_checkpoint_spec.specs.text.Lines.{Lines}
use Rattle.pat_checkpoint_spec.specs.text.CheckpointText.{line}
use Rattle.pat_checkpoint_spec.specs.text.LineReading.{lines_with, with_line}
use Rattle.pat_checkpoint_spec.specs.text.Reading.{ReadsTo, first, another}

minus_one : read_integer (codes "-1") ≡ Some (negsuc 0)
minus_one = refl

no_minus_zero : read_integer (codes "-0") ≡ None
no_minus_zero = refl

no_zero_in_front : read_integer (codes "01") ≡ None
no_zero_in_front = refl

greatest : read_integer (codes "9223372036854775807") ≡ Some (pos 9223372036854775807)
greatest = refl

too_great : read_integer (codes "9223372036854775808") ≡ None
too_great = refl

least : read_integer (codes "-9223372036854775808") ≡ Some (negsuc 9223372036854775807)
least = refl

too_little : read_integer (codes "-9223372036854775809") ≡ None
too_little = refl

-- a comma and brackets in a string, and a quote behind a backslash: "a, }\"" and then }
abbrev string_bytes : List ℕ
string_bytes = 34 ∷ 97 ∷ 44 ∷ 32 ∷ 125 ∷ 92 ∷ 34 ∷ 34 ∷ []

stays_whole : pieces_outside 44 string_bytes ≡ string_bytes ∷ []
stays_whole = refl

no_values : read_values [] ≡ Some []
no_values = refl

no_space_alone : read_values (codes " ") ≡ None
no_space_alone = refl

three : read_values (codes "unit, -3, #7") ≡ Some (Const UnitConst ∷ Const (IntConst (negsuc 2)) ∷ Mailbox 7 ∷ [])
three = refl

no_space_between : read_values (codes "1,2") ≡ None
no_space_between = refl

two_spaces : read_values (codes "1,  2") ≡ None
two_spaces = refl

comma_at_end : read_values (codes "1, ") ≡ None
comma_at_end = refl

values_in_order : read_env (codes "v0=1, v3=#2") ≡ Some ((0, Const (IntConst (pos 1))) ∷ (3, Mailbox 2) ∷ [])
values_in_order = refl

out_of_order : read_env (codes "v3=1, v0=#2") ≡ None
out_of_order = refl

repeated : read_env (codes "v3=1, v3=1") ≡ None
repeated = refl

-- ---- a whole text

-- five nodes, and an interface `I` with a tag `m`
abbrev node : Node
node = record { core = Val (Literal UnitConst); kind = Plain BaseUnit; function = 0 }

abbrev program : Program
program = record {
  interfaces = record { name = codes "I"; tags = record { name = codes "m"; payloads = [] } ∷ [] } ∷ [];
  functions = [];
  main = 0;
  nodes = node ∷ node ∷ node ∷ node ∷ node ∷ [];
}

-- a mailbox with a message in it, and a thread that gives a value to a frame that has the mailbox
abbrev lines : Lines
lines = record {
  next_thread = 1;
  next_mailbox = 1;
  next_message = 1;
  mailboxes = record { number = 0; interface = 0; cert = None } ∷ [];
  messages = record { number = 0; mailbox = 0; tag = 0; values = [] } ∷ [];
  threads = record {
    number = 0;
    control = Returned (Const UnitConst);
    cert = None;
    frames = record { frame = record { var = None; body = 4; env = (0, Mailbox 0) ∷ [] }; cert = None } ∷ [];
  } ∷ [];
}

abbrev text : List ℕ
text = line (codes "%%checkpoint") ++ (line (codes "next 1 1 1") ++ (line (codes "mailbox 0 I") ++ (line (codes "message 0 0 m()") ++ (line (codes "thread 0 value unit") ++ line (codes "frame - 4 {v0=#0}")))))

is_read : ReadsTo program text lines []
is_read = another (another (another (another (first refl refl refl) refl refl) refl refl) refl refl) refl refl

-- lines that may not stand where they do
no_mailbox_behind : with_line program lines (codes "mailbox 1 I") ≡ None
no_mailbox_behind = refl

no_message_behind : with_line program lines (codes "message 1 0 m()") ≡ None
no_message_behind = refl

no_thread_again : with_line program lines (codes "thread 0 value unit") ≡ None
no_thread_again = refl

no_such_node : with_line program lines (codes "frame - 5 {}") ≡ None
no_such_node = refl

no_frame_yet : with_line program (lines_with 1 1 1) (codes "frame - 4 {}") ≡ None
no_frame_yet = refl

no_such_mailbox : with_line program (lines_with 1 1 1) (codes "message 0 0 m()") ≡ None
no_such_mailbox = refl

no_such_interface : with_line program (lines_with 1 1 1) (codes "mailbox 0 J") ≡ None
no_such_interface = refl
