-- What is known of what a node needs, and of the nodes that are found.
use Rattle.std.proofs.Common.{◌≡◌, true, ℕ, [], Option, Some, None, refl, sym, ap, ◌∙◌, subst}
use Rattle.std.specs.Prelude.{slice_get, option_map}
use Rattle.std.specs.List.{AllByRecursion}
use Rattle.pat_words_spec.specs.Patterns.{Pat}
use Rattle.pat_semantics_spec.specs.Values.{Kind, MailboxOf}
use Rattle.pat_semantics_spec.specs.Programs.{Function, Core, Node, Program, node_at, core_at, function_at, is_free, core_uses, KindAt}
use Rattle.pat_semantics_spec.specs.WellFormed.{WellFormed, NodeFits, IsPartOf}
use Rattle.pat_semantics_laws.proofs.FreeVars.{free_unfolds}
use Rattle.pat_semantics_laws.proofs.Lists.{all_snoc}
use Rattle.pat_type_system_spec.specs.Types.{MailboxType, TypeOf, BaseTerm, MailboxTerm, kind_of_type, PassesTo, TypeEnv, EnvPasses}
use Rattle.pat_type_system_spec.specs.Typings.{Typing, HasWord, TypeHasWord, CoreTyped, NodeTyped}
use Rattle.pat_inclusion_spec.specs.Values.{replaced}
use Rattle.pat_type_schemes_spec.specs.NodeTypes.{type_under, need_under, result_under, Needs, need_of, NodeType}
use Rattle.pat_infer_spec.specs.Constraints.{Found}
use Rattle.pat_infer_spec.specs.Walk.{Part, with_node}
use Rattle.pat_infer_laws.proofs.BothLaws.{Holds, fits_same}
use Rattle.pat_infer_laws.proofs.TermSound.{env_at}

-- a sending type has a word
abbrev pub HasWordUnder : (ℕ → Pat) → MailboxType → Type 0
HasWordUnder s a = HasWord a.polarity (replaced s a.pattern)

-- a need of variable z at node n: it is of the variable's interface, it is as it should be, and the variable is free there
pub record NeedFits (p : Program) (Ok : MailboxType → Type 0) (n z : ℕ) (a : MailboxType) : Type 0 where
  pub kind : KindAt p n z (MailboxOf a.interface)
  pub word : Ok a
  pub free : is_free p z n ≡ true

-- all needs of node n
abbrev pub NeedsFit : Program → (MailboxType → Type 0) → ℕ → Needs → Type 0
NeedsFit p Ok n needs = (z : ℕ) (a : MailboxType) → need_of needs z ≡ Some a → NeedFits p Ok n z a

-- a node is in the typing as it was found
abbrev pub EntryIn : Typing → (ℕ → Pat) → (ℕ × NodeType) → Type 0
EntryIn y s e = (y.results e.0 ≡ result_under s e.1.result) × (y.envs e.0 ≡ env_at s e.1.needs)

-- a node that was found is typed
abbrev pub EntryTyped : Program → Typing → (ℕ × NodeType) → Type 0
EntryTyped p y e = (d : Node) → node_at p e.0 ≡ Some d → NodeTyped p y e.0 d

-- what is found breaks no rule, its constraints hold, and its nodes are in the typing
pub record Allowed (y : Typing) (s : ℕ → Pat) (r : Found) : Type 0 where
  pub clean : r.findings ≡ []
  pub holds : AllByRecursion (Holds s) r.constraints
  pub entries : AllByRecursion (EntryIn y s) r.nodes

-- a part that was asked for a type
pub record PartTyped (p : Program) (y : Typing) (s : ℕ → Pat) (n : ℕ) (asked : TypeOf) (r : Found) : Type 0 where
  pub result : y.results n ≡ result_under s asked
  pub env : y.envs n ≡ env_at s r.needs
  pub fits : NeedsFit p (HasWordUnder s) n r.needs
  pub typed : AllByRecursion (EntryTyped p y) r.nodes

-- a part is typed, whatever it is asked for that is of its kind and has a word
abbrev pub PartTypes : Program → Typing → (ℕ → Pat) → Part → ℕ → Type 0
PartTypes p y s part m =
    (asked : TypeOf) (k : ℕ) (e : Node) → node_at p m ≡ Some e → kind_of_type asked ≡ e.kind → TypeHasWord (result_under s asked) → Allowed y s (part m asked k) → PartTyped p y s m asked (part m asked k)

-- a term that was asked for a type
pub record CoreFound (p : Program) (y : Typing) (s : ℕ → Pat) (n : ℕ) (asked : TypeOf) (core : Core) (r : Found) : Type 0 where
  pub term : CoreTyped p y (env_at s r.needs) (result_under s asked) core
  pub fits : NeedsFit p (HasWordUnder s) n r.needs
  pub typed : AllByRecursion (EntryTyped p y) r.nodes

-- ---- small facts

-- what is the same passes
pub passes_same : (a : Option MailboxType) → PassesTo a a
passes_same None = tt
passes_same (Some a) = fits_same a

pub env_same : (g h : TypeEnv) → ((z : ℕ) → g z ≡ h z) → EnvPasses g h
env_same g h e z = subst (PassesTo (g z)) (e z) (passes_same (g z))

pub under_some : (s : ℕ → Pat) (o : Option MailboxType) (a : MailboxType) → need_under s o ≡ Some a → (b : MailboxType) × (o ≡ Some b) × (type_under s b ≡ a)
under_some s None a h = cc
under_some s (Some b) a h = (b, refl, cc)

kind_under : (s : ℕ → Pat) (t : TypeOf) → kind_of_type (result_under s t) ≡ kind_of_type t
kind_under s (BaseTerm b) = refl
kind_under s (MailboxTerm i q e) = refl

-- a node's term
pub core_here : (p : Program) (n : ℕ) (d : Node) → node_at p n ≡ Some d → core_at p n ≡ Some d.core
core_here p n d at = ap (λ o. option_map (λ (x : Node). x.core) o) at

-- a variable is free where its term uses it
pub free_here : (p : Program) (wf : WellFormed p) (z n : ℕ) (d : Node) → node_at p n ≡ Some d → (core : Core) → d.core ≡ core → core_uses (λ k. is_free p z k) z core ≡ true → is_free p z n ≡ true
free_here p wf z n d at core is h = free_unfolds p z n core wf (core_here p n d at ∙ ap (λ c. Some c) is) ∙ h

-- the kind of a variable of the node's function
pub here_kind : (p : Program) (n x : ℕ) (d : Node) (at : node_at p n ≡ Some d) (k : Kind) (fits : NodeFits p n d) → slice_get fits.function.vars x ≡ Some k → KindAt p n x k
here_kind p n x d at k fits h = (d, fits.function, at, fits.of, h)

pub kind_here : (p : Program) (n x : ℕ) (d : Node) (at : node_at p n ≡ Some d) (k : Kind) (fits : NodeFits p n d) → KindAt p n x k → slice_get fits.function.vars x ≡ Some k
kind_here p n x d at k fits (e, f, there, of, kind) =
    let same : e ≡ d = cc in
    let at_f : function_at p d.function ≡ Some f = ap (λ (w : Node). function_at p w.function) (sym same) ∙ of in
    let one : Some f ≡ Some fits.function = sym at_f ∙ fits.of in
    let function : f ≡ fits.function = cc in
    ap (λ (w : Function). slice_get w.vars x) (sym function) ∙ kind

-- a part is of the same function
pub kind_up : (p : Program) (n m x : ℕ) (d : Node) → node_at p n ≡ Some d → IsPartOf p n d m → (k : Kind) → KindAt p m x k → KindAt p n x k
kind_up p n m x d at part k (e, f, there, of, kind) =
    let again : Some part.1.0 ≡ Some e = sym part.1.1 ∙ there in
    let same : part.1.0 ≡ e = cc in
    let at_f : function_at p d.function ≡ Some f = ap (function_at p) (sym part.1.2) ∙ ap (λ (w : Node). function_at p w.function) same ∙ of in
    (d, f, at, at_f, kind)

-- ---- a node from its term

pub node_typed : (p : Program) (y : Typing) (s : ℕ → Pat) (n : ℕ) (d : Node) (asked : TypeOf) (r : Found) → node_at p n ≡ Some d → kind_of_type asked ≡ d.kind → TypeHasWord (result_under s asked) → CoreFound p y s n asked d.core r → y.results n ≡ result_under s asked → y.envs n ≡ env_at s r.needs → NodeTyped p y n d
node_typed p y s n d asked r at kind word found result env = record {
  kind = ap kind_of_type result ∙ kind_under s asked ∙ kind;
  kinds = λ x a h.
      let q = under_some s (need_of r.needs x) a (ap (λ (g : TypeEnv). g x) (sym env) ∙ h) in
      subst (λ (b : MailboxType). KindAt p n x (MailboxOf b.interface)) q.2 (found.fits x q.0 q.1).kind;
  words = λ x a h.
      let q = under_some s (need_of r.needs x) a (ap (λ (g : TypeEnv). g x) (sym env) ∙ h) in
      subst (λ (b : MailboxType). HasWord b.polarity b.pattern) q.2 (found.fits x q.0 q.1).word;
  result_word = subst TypeHasWord (sym result) word;
  term = subst (λ t. CoreTyped p y (y.envs n) t d.core) (sym result) (subst (λ (g : TypeEnv). CoreTyped p y g (result_under s asked) d.core) (sym env) found.term);
}

pub part_typed : (p : Program) (y : Typing) (s : ℕ → Pat) (n : ℕ) (d : Node) (asked : TypeOf) (r : Found) → node_at p n ≡ Some d → kind_of_type asked ≡ d.kind → TypeHasWord (result_under s asked) → CoreFound p y s n asked d.core r → EntryIn y s (n, record { result = asked; needs = r.needs }) → PartTyped p y s n asked (with_node n asked r)
part_typed p y s n d asked r at kind word found entry = record {
  result = entry.0;
  env = entry.1;
  fits = found.fits;
  typed = all_snoc (EntryTyped p y) r.nodes (n, record { result = asked; needs = r.needs }) found.typed
      (λ e there. let same : d ≡ e = cc in subst (NodeTyped p y n) same (node_typed p y s n d asked r at kind word found entry.0 entry.1));
}
