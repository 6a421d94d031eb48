-- What the definitions see of types.
use Rattle.std.specs.Prelude.{ℕ, List, map}
use Rattle.pat_patterns.specs.Patterns.{Pat, Var}
use Rattle.pat_type_system_spec.specs.Types as types
use Rattle.pat_type_schemes_spec.specs.NodeTypes as open_types
use Rattle.pat_primitives.specs.Views.{base_view, polarity_view}
use Rattle.pat_patterns.specs.Views.{pattern_view}
use Rattle.pat_types.specs.declared.types.Usage.{Usage}
use Rattle.pat_types.specs.declared.types.Usage.TheVariants as usage
use Rattle.pat_types.specs.declared.types.MailboxType.{MailboxType}
use Rattle.pat_types.specs.declared.types.TypeOf.{TypeOf}
use Rattle.pat_types.specs.declared.types.TypeOf.TheVariants as type_of
use Rattle.pat_types.specs.declared.types.NodeType.{NodeType}
use Rattle.pat_types.specs.declared.types.Right.{Right}
use Rattle.pat_types.specs.declared.types.Right.TheVariants as right

abbrev pub usage_view : Usage → types.Usage
usage_view usage.Second = types.Second
usage_view usage.Returnable = types.Returnable

abbrev pub type_view : MailboxType → types.MailboxType
type_view a = types.mailbox_type a.interface (polarity_view a.polarity) (pattern_view a.pattern) (usage_view a.usage)

abbrev pub result_view : TypeOf → types.TypeOf
result_view (type_of.Base b) = types.BaseTerm (base_view b)
result_view (type_of.Mailbox i q e) = types.MailboxTerm i (polarity_view q) (pattern_view e)

-- what is needed of a variable
abbrev pub need_view : (ℕ × MailboxType) → ℕ × types.MailboxType
need_view e = (e.0, type_view e.1)

abbrev pub needs_view : List (ℕ × MailboxType) → open_types.Needs
needs_view needs = map need_view needs

abbrev pub node_type_view : NodeType → open_types.NodeType
node_type_view t = record { result = result_view t.result; needs = needs_view t.env }

-- ---- right sides

-- a right side: a variable, or a pattern that isn't one
pub data RightForm : Type 0 where
  OneVariable : (number : ℕ) → RightForm
  OtherPattern : (pattern : Pat) → RightForm

-- the pattern as a right side
abbrev pub right_form : Pat → RightForm
right_form (Var k) = OneVariable k
right_form e = OtherPattern e

abbrev pub right_view : Right → RightForm
right_view (right.Var k) = OneVariable k
right_view (right.Pattern e) = OtherPattern (pattern_view e)
