-- Where nothing but one mark may stand.
use Rattle.std.proofs.Common.{◌≡◌, ◌≢◌, List, refl}
use Rattle.pat_lexer_spec.specs.Marks as mark
use Rattle.pat_lexer_spec.specs.Tokens.{Token as Kind, Mark}
use Rattle.pat_parser_spec.specs.Trees as tree
use Rattle.pat_parser_spec.specs.Machine as m
use Rattle.pat_parser_phrases.specs.tokens.Answers.{OnlyMark}

interface_other : (fs : List m.Frame) (ds : List tree.Decl) (x : tree.Name) (d : Kind) (w : tree.Span) → d ≢ Mark mark.CurlyOpen → m.interface_named fs 0 ds x d w ≡ m.Refused
interface_other fs ds x (Mark mark.CurlyOpen) w h = absurd (h refl)
interface_other fs ds x _ w h = refl

pub behind_interface_name : (fs : List m.Frame) (ds : List tree.Decl) (x : tree.Name) → OnlyMark (m.state (m.GotName (m.InterfaceName ds) x) fs 0 0 0) mark.CurlyOpen
behind_interface_name fs ds x = record { goes_on = refl; others = interface_other fs ds x }

message_other : (fs : List m.Frame) (i : m.Interfacing) (x : tree.Name) (d : Kind) (w : tree.Span) → d ≢ Mark mark.RoundOpen → m.message_named fs 1 i x d w ≡ m.Refused
message_other fs i x (Mark mark.RoundOpen) w h = absurd (h refl)
message_other fs i x _ w h = refl

pub behind_message_name : (fs : List m.Frame) (i : m.Interfacing) (x : tree.Name) → OnlyMark (m.state (m.GotName (m.MessageName i) x) fs 1 0 0) mark.RoundOpen
behind_message_name fs i x = record { goes_on = refl; others = message_other fs i x }

function_other : (fs : List m.Frame) (ds : List tree.Decl) (x : tree.Name) (d : Kind) (w : tree.Span) → d ≢ Mark mark.RoundOpen → m.function_named fs 0 ds x d w ≡ m.Refused
function_other fs ds x (Mark mark.RoundOpen) w h = absurd (h refl)
function_other fs ds x _ w h = refl

pub behind_function_name : (fs : List m.Frame) (ds : List tree.Decl) (x : tree.Name) → OnlyMark (m.state (m.GotName (m.FunctionName ds) x) fs 0 0 0) mark.RoundOpen
behind_function_name fs ds x = record { goes_on = refl; others = function_other fs ds x }

param_other : (fs : List m.Frame) (f : m.Defining) (x : tree.Name) (d : Kind) (w : tree.Span) → d ≢ Mark mark.Colon → m.param_named fs 1 f x d w ≡ m.Refused
param_other fs f x (Mark mark.Colon) w h = absurd (h refl)
param_other fs f x _ w h = refl

pub behind_param_name : (fs : List m.Frame) (f : m.Defining) (x : tree.Name) → OnlyMark (m.state (m.GotName (m.ParamName f) x) fs 1 0 0) mark.Colon
behind_param_name fs f x = record { goes_on = refl; others = param_other fs f x }

params_other : (fs : List m.Frame) (f : m.Defining) (d : Kind) (w : tree.Span) → d ≢ Mark mark.Colon → m.after_params fs 0 f d w ≡ m.Refused
params_other fs f (Mark mark.Colon) w h = absurd (h refl)
params_other fs f _ w h = refl

pub behind_params : (fs : List m.Frame) (f : m.Defining) → OnlyMark (m.state (m.AfterParams f) fs 0 0 0) mark.Colon
behind_params fs f = record { goes_on = refl; others = params_other fs f }
