-- What a typing says of the node at which a thread stands.
use Rattle.std.proofs.Common.{◌≡◌, ℕ, true, false, Option, Some, None, refl, sym, ap, subst}
use Rattle.std.specs.Prelude.{option_map}
use Rattle.pat_semantics_spec.specs.Values.{Plain, MailboxOf}
use Rattle.pat_semantics_spec.specs.Programs.{Program, Core, Node, node_at, core_at, parts, binders, is_among}
use Rattle.pat_semantics_spec.specs.WellFormed.{WellFormed, NodeFits, CoreKinds}
use Rattle.pat_type_system_spec.specs.Types.{MailboxType, TypeOf, BaseTerm, MailboxTerm, kind_of_type, TypeFits}
use Rattle.pat_type_system_spec.specs.Typings.{Typing, IsTyping, NodeTyped, CoreTyped}
use Rattle.pat_type_system_laws.proofs.Unbound.{named_unbound}

-- a node with this term, as well-formedness and the typing have it
pub record NodeFacts (p : Program) (y : Typing) (n : ℕ) (core : Core) : Type 0 where
  pub node : Node
  pub there : node_at p n ≡ Some node
  pub fits : NodeFits p n node
  pub typed : NodeTyped p y n node
  pub term : CoreTyped p y (y.envs n) (y.results n) core
  pub kinds : CoreKinds p fits.function.vars (kind_of_type (y.results n)) core
  pub unbound : (x : ℕ) (a : MailboxType) → y.envs n x ≡ Some a → is_among x (binders core) ≡ false

facts_of : (p : Program) (y : Typing) (n : ℕ) (core : Core) (o : Option Node) → WellFormed p → IsTyping p y → node_at p n ≡ o → option_map (λ (d : Node). d.core) o ≡ Some core → NodeFacts p y n core
facts_of p y n core None w i e h = cc
facts_of p y n core (Some d) w i e h =
    let same : d.core ≡ core = cc in
    let f = w.nodes n d e in
    let g = i.nodes n d e in
    record {
      node = d;
      there = e;
      fits = f;
      typed = g;
      term = subst (CoreTyped p y (y.envs n) (y.results n)) same g.term;
      kinds = subst (λ k. CoreKinds p f.function.vars k core) (sym g.kind) (subst (CoreKinds p f.function.vars d.kind) same f.kinds);
      unbound = λ x a at. subst (λ c. is_among x (binders c) ≡ false) same (named_unbound p y w i x n d a e at);
    }

pub node_facts : (p : Program) (y : Typing) (n : ℕ) (core : Core) → WellFormed p → IsTyping p y → core_at p n ≡ Some core → NodeFacts p y n core
node_facts p y n core w i h = facts_of p y n core (node_at p n) w i refl h

-- a type that fits another has its kind
pub fits_kind : (s t : TypeOf) → TypeFits s t → kind_of_type s ≡ kind_of_type t
fits_kind (BaseTerm b) (BaseTerm c) h = ap (λ x. Plain x) h
fits_kind (MailboxTerm i q e) (MailboxTerm j r f) h = ap (λ x. MailboxOf x) h.interface
fits_kind (BaseTerm b) (MailboxTerm j r f) h = absurd h
fits_kind (MailboxTerm i q e) (BaseTerm c) h = absurd h

-- a part of a node is a node
part_of : (p : Program) (n : ℕ) (core : Core) (o : Option Node) → WellFormed p → node_at p n ≡ o → option_map (λ (d : Node). d.core) o ≡ Some core → (k : ℕ) → is_among k (parts core) ≡ true → (c : Core) × (core_at p k ≡ Some c)
part_of p n core None w e h k a = cc
part_of p n core (Some d) w e h k a =
    let same : d.core ≡ core = cc in
    let q = (w.nodes n d e).parts_after k (subst (λ c. is_among k (parts c) ≡ true) (sym same) a) in
    (q.1.0.core, ap (λ o. option_map (λ (x : Node). x.core) o) q.1.1)

pub part_core : (p : Program) (n : ℕ) (core : Core) → WellFormed p → core_at p n ≡ Some core → (k : ℕ) → is_among k (parts core) ≡ true → (c : Core) × (core_at p k ≡ Some c)
part_core p n core w at k a = part_of p n core (node_at p n) w refl at k a
