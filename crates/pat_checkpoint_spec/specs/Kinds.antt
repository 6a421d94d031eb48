-- The second rule: each part has values of the right kinds for just its free variables, each frame is that of a let, and what a part gives
-- fits what the next frame wants.
use Rattle.std.specs.Prelude.{ℕ, Bool, true, false, not, ◌&&◌, ◌||◌, nat_eq, if◌then◌else◌, List, [], ◌∷◌, length, Option, Some, None, is_some}
use Rattle.std.specs.List.{list_all, list_any, range_with_len}
use Rattle.pat_semantics_spec.specs.Values.{Value, Const, Mailbox, Kind, Plain, MailboxOf, Env, value_at, base_of}
use Rattle.pat_semantics_spec.specs.Programs.{Function, Core, Let, Node, Program, core_at, is_among, option_list, is_free}
use Rattle.pat_semantics_spec.specs.Configs.{Control, Running, Returned, Frame, Thread}
use Rattle.pat_inclusion_spec.specs.Values.{Scope}
use Rattle.pat_inclusion_spec.specs.Certificates.{Cert, Inclusion, is_shown}
use Rattle.pat_type_system_spec.specs.Types.{TypeOf, BaseTerm, MailboxTerm, kind_of_type}
use Rattle.pat_type_system_spec.specs.Typings.{Typing}
use Rattle.pat_type_system_spec.specs.Holdings.{wanted}
use Rattle.pat_type_schemes_spec.specs.Compared.{polarity_eq}
use Rattle.pat_derivation_spec.specs.Same.{is_same_base}
use Rattle.pat_derivation_spec.specs.Scopes.{function_of, kind_at}
use Rattle.pat_derivation_spec.specs.Demands.{same_interface, fit_by}
use Rattle.pat_derivation_spec.specs.Derivations.{Derivation, scope_of, written_typing}
use Rattle.pat_checkpoint_spec.specs.Checkpoints.{PartCerts, Checkpoint, interfaces_of}

-- ---- values

-- whether the value has the kind, where mailboxes have these interfaces
abbrev pub value_fits : (ℕ → ℕ) → Value → Kind → Bool
value_fits interfaces (Const c) (Plain b) = is_same_base (base_of c) b
value_fits interfaces (Mailbox a) (MailboxOf i) = nat_eq (interfaces a) i
value_fits interfaces _ _ = false

abbrev pub value_fits_some : (ℕ → ℕ) → Value → Option Kind → Bool
value_fits_some interfaces v None = false
value_fits_some interfaces v (Some k) = value_fits interfaces v k

abbrev pub vars_of : Option Function → ℕ
vars_of None = 0
vars_of (Some g) = length g.vars

-- how many variables the function of the node has
abbrev pub var_count : Program → ℕ → ℕ
var_count p n = vars_of (function_of p n)

-- whether the variable is free in the node and none of these
abbrev pub is_asked : Program → ℕ → List ℕ → ℕ → Bool
is_asked p n but x = is_free p x n && not (is_among x but)

-- whether the entry of an environment is for such a variable, and of its kind
abbrev pub entry_fits : Program → (ℕ → ℕ) → ℕ → List ℕ → ℕ × Value → Bool
entry_fits p interfaces n but e = is_asked p n but e.0 && value_fits_some interfaces e.1 (kind_at p n e.0)

-- whether a part at the node has values for just the node's free variables but these, and they have their kinds
abbrev pub part_fits : Program → (ℕ → ℕ) → ℕ → List ℕ → Env → Bool
part_fits p interfaces n but env =
    is_some (core_at p n)
    && (list_all (λ x. not (is_asked p n but x) || is_some (value_at env x)) (range_with_len 0 (var_count p n))
    && list_all (entry_fits p interfaces n but) env)

-- ---- what a part gives

-- whether the types are of the same kind and polarity
abbrev pub types_agree : TypeOf → TypeOf → Bool
types_agree (BaseTerm b) (BaseTerm c) = is_same_base b c
types_agree (MailboxTerm i q e) (MailboxTerm j r f) = nat_eq i j && polarity_eq q r
types_agree _ _ = false

-- the inclusion that is needed for the one to fit the other, if there is one
abbrev pub type_needs : TypeOf → TypeOf → Option Inclusion
type_needs (MailboxTerm i q e) (MailboxTerm j r f) = Some (fit_by r (same_interface i j) e f)
type_needs _ _ = None

-- whether an inclusion that is needed is shown, with this certificate or with none, and none is left over where nothing is needed
abbrev pub is_certified : Scope → Option Inclusion → Option Cert → Bool
is_certified s None cert = not (is_some cert)
is_certified s (Some q) cert = is_shown s q cert

-- whether a control has its values, and gives what the frames want but for the inclusion
abbrev pub control_fits : Program → Typing → (ℕ → ℕ) → Control → List Frame → Bool
control_fits p y interfaces (Running n env) fs = part_fits p interfaces n [] env && types_agree (y.results n) (wanted p y fs)
control_fits p y interfaces (Returned v) fs = value_fits interfaces v (kind_of_type (wanted p y fs))

-- and the inclusion
abbrev pub control_needs : Program → Typing → Control → List Frame → Option Inclusion
control_needs p y (Running n env) fs = type_needs (y.results n) (wanted p y fs)
control_needs p y (Returned v) fs = None

-- whether the names are the same, or there is none
abbrev pub is_same_name : Option ℕ → Option ℕ → Bool
is_same_name None None = true
is_same_name (Some x) (Some y) = nat_eq x y
is_same_name _ _ = false

-- whether the term is a let of the frame's name and body
abbrev pub is_let_of : Frame → Core → Bool
is_let_of f (Let x m n) = is_same_name x f.var && nat_eq n f.body
is_let_of f _ = false

-- whether the frame's name and body are those of a let
abbrev pub is_frame_of_let : Program → Frame → Bool
is_frame_of_let p f = list_any (λ d. is_let_of f d.core) p.nodes

-- the name and the bound part of a let with this body
abbrev pub let_of : ℕ → Core → Option (Option ℕ × ℕ)
let_of b (Let x m n) = if nat_eq b n then Some (x, m) else None
let_of b _ = None

abbrev pub or_later : Option (Option ℕ × ℕ) → Option (Option ℕ × ℕ) → Option (Option ℕ × ℕ)
or_later None later = later
or_later (Some e) later = Some e

-- the name and the bound part of the first let with this body
abbrev pub let_with : List Node → ℕ → Option (Option ℕ × ℕ)
let_with [] b = None
let_with (d ∷ ds) b = or_later (let_of b d.core) (let_with ds b)

-- whether the frame has the name of the let, if there is one
abbrev pub has_name_of : Frame → Option (Option ℕ × ℕ) → Bool
has_name_of f None = false
has_name_of f (Some e) = is_same_name e.0 f.var

-- the same of the frames, each of which gives to the next
abbrev pub frames_fit : Program → Typing → (ℕ → ℕ) → List Frame → Bool
frames_fit p y interfaces [] = true
frames_fit p y interfaces (f ∷ fs) =
    is_frame_of_let p f
    && (part_fits p interfaces f.body (option_list f.var) f.env
    && (types_agree (y.results f.body) (wanted p y fs) && frames_fit p y interfaces fs))

abbrev pub thread_fits : Program → Typing → (ℕ → ℕ) → Thread → Bool
thread_fits p y interfaces s = control_fits p y interfaces s.control s.frames && frames_fit p y interfaces s.frames

-- ---- certificates

-- whether what each frame gives is shown, and there is a place for a certificate for each
abbrev pub frames_shown : Program → Typing → Scope → List Frame → List (Option Cert) → Bool
frames_shown p y s [] [] = true
frames_shown p y s (f ∷ fs) (k ∷ ks) = is_certified s (type_needs (y.results f.body) (wanted p y fs)) k && frames_shown p y s fs ks
frames_shown p y s _ _ = false

abbrev pub thread_shown : Program → Typing → Scope → Thread → PartCerts → Bool
thread_shown p y s t k = is_certified s (control_needs p y t.control t.frames) k.control && frames_shown p y s t.frames k.frames

abbrev pub threads_shown : Program → Typing → Scope → List (ℕ × Thread) → List PartCerts → Bool
threads_shown p y s [] [] = true
threads_shown p y s (e ∷ es) (k ∷ ks) = thread_shown p y s e.1 k && threads_shown p y s es ks
threads_shown p y s _ _ = false

-- ---- the rule

-- without the inclusions
abbrev pub kinds_fit : Program → Derivation → Checkpoint → Bool
kinds_fit p d x = list_all (λ e. thread_fits p (written_typing p d) (interfaces_of x) e.1) x.config.threads

-- the inclusions
abbrev pub parts_shown : Program → Derivation → Checkpoint → Bool
parts_shown p d x = threads_shown p (written_typing p d) (scope_of p d) x.config.threads x.part_certs

-- Kinds
abbrev pub kinds_hold : Program → Derivation → Checkpoint → Bool
kinds_hold p d x = kinds_fit p d x && parts_shown p d x
