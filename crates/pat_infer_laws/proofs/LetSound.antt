-- A spawn and a let under a typing.
use Rattle.std.proofs.Common.{◌≡◌, ℕ, ◌+◌, true, false, ◌||◌, nat_eq, if◌then◌else◌, List, [], ◌∷◌, ◌++◌, length, Option, Some, None, refl, sym, ◌∙◌, subst}
use Rattle.std.specs.Prelude.{option_map}
use Rattle.pat_words_spec.specs.Words.{no_word}
use Rattle.pat_words_spec.specs.Patterns.{Pat, One, In}
use Rattle.pat_semantics_spec.specs.Values.{BaseUnit, Kind, Plain, MailboxOf}
use Rattle.pat_semantics_spec.specs.Programs.{Polarity, Sending, Receiving, Node, Program, node_at}
use Rattle.pat_semantics_laws.proofs.Lists.{all_join}
use Rattle.pat_type_system_spec.specs.Types.{Second, Returnable, MailboxType, mailbox_type, TypeOf, BaseTerm, MailboxTerm, kind_of_type, PatternFits, Fits, TypeFits, DropsAs, PassesTo, TypeEnv, EnvPasses, EnvSplits, without, returnable}
use Rattle.pat_type_system_spec.specs.Typings.{Typing, NamePasses, without_name, name_type}
use Rattle.pat_type_system_laws.proofs.Passing.{fits_twice}
use Rattle.pat_inclusion_spec.specs.Values.{replaced}
use Rattle.pat_type_schemes_spec.specs.NodeTypes.{type_under, need_under, result_under, Needs, need_of}
use Rattle.pat_infer_spec.specs.Constraints.{AtNode, OrderRule, DoubleRule, each_unless, Found}
use Rattle.pat_infer_spec.specs.Needs.{names_of_two, Combined}
use Rattle.pat_infer_spec.specs.BothParts.{in_order, one_receives, both_parts}
use Rattle.pat_infer_spec.specs.Walk.{Part, asked_as, asked_of, name_need, spawn_found, body_needs, let_gathered, let_findings, let_found, bound_found}
use Rattle.pat_infer_spec.specs.Solutions.{GivesFrom}
use Rattle.pat_infer_laws.proofs.Lookups.{eq_turn, need_but, as_second, need_second, no_name}
use Rattle.pat_infer_laws.proofs.Gathering.{each_all, gives_parts, each_none, nil_join, Each, each_map, EachGives, gather_gives, EachHolds, gather_holds, EachNeed, gather_needs}
use Rattle.pat_type_system_laws.proofs.Splitting.{second_any}
use Rattle.pat_infer_laws.proofs.BothLaws.{Holds, PartsPass, parts_pass}
use Rattle.pat_infer_laws.proofs.TermSound.{env_at, Sound}

-- a part, whatever it is asked for that its type fits
abbrev pub PartSound : Typing → (ℕ → Pat) → Part → ℕ → Type 0
PartSound y s part m =
    (asked : TypeOf) (k : ℕ) → TypeFits (y.results m) (result_under s asked) → GivesFrom y s k (part m asked k).vars → Sound s (y.envs m) (part m asked k)

-- ---- spawns

second_passes : (s : ℕ → Pat) (a b o : Option MailboxType) → PassesTo (returnable a) b → PassesTo b (need_under s o) → PassesTo a (need_under s (option_map as_second o))
second_passes s None None o h k = go o k
  where
    go : (o : Option MailboxType) → PassesTo None (need_under s o) → PassesTo None (need_under s (option_map as_second o))
    go None k = tt
    go (Some c) k = absurd k
second_passes s None (Some b) o h k = absurd h
second_passes s (Some a) None None h k = h
second_passes s (Some a) None (Some c) h k = absurd k
second_passes s (Some a) (Some b) None h k = drops a.polarity b.polarity h.polarity h.pattern k
  where
    drops : (q r : Polarity) → q ≡ r → PatternFits r a.pattern b.pattern → DropsAs r b.pattern → DropsAs q a.pattern
    drops Sending Sending e f d = f no_word d
    drops Receiving Receiving e f d = absurd d
    drops Sending Receiving e f d = cc
    drops Receiving Sending e f d = cc
second_passes s (Some a) (Some b) (Some c) h k =
    let both = fits_twice (mailbox_type a.interface a.polarity a.pattern Returnable) b (type_under s c) h k in
    record {
      interface = both.interface;
      polarity = both.polarity;
      usage = second_any a.usage Second refl;
      pattern = both.pattern;
    }

pub spawn_sound : (y : Typing) (s : ℕ → Pat) (g : TypeEnv) (part : Part) (k m : ℕ) → y.results m ≡ BaseTerm BaseUnit → EnvPasses (λ x. returnable (g x)) (y.envs m) → PartSound y s part m → GivesFrom y s k (part m (BaseTerm BaseUnit) k).vars → Sound s g (spawn_found (part m (BaseTerm BaseUnit) k))
spawn_sound y s g part k m result passes body gives =
    let r : Found = part m (BaseTerm BaseUnit) k in
    let inner = body (BaseTerm BaseUnit) k (subst (λ t. TypeFits t (BaseTerm BaseUnit)) (sym result) refl) gives in
    record {
      clean = inner.clean;
      passes = λ z.
          subst (λ o. PassesTo (g z) (need_under s o)) (sym (need_second r.needs z))
          (second_passes s (g z) (y.envs m z) (need_of r.needs z) (passes z) (inner.passes z));
      holds = inner.holds;
    }

-- ---- lets

-- the bound part's type fits what it is asked for
named_fits : (s : ℕ → Pat) (i j : ℕ) (q : Polarity) (e : Pat) (a b : MailboxType) → i ≡ j → a.polarity ≡ q → a.pattern ≡ e → Fits a (type_under s b) → TypeFits (MailboxTerm i q e) (MailboxTerm j b.polarity (replaced s b.pattern))
named_fits s i j q e a b face pol pat fit = record {
  interface = face;
  polarity = sym pol ∙ fit.polarity;
  usage = tt;
  pattern = subst (λ x. PatternFits b.polarity x (replaced s b.pattern)) pat fit.pattern;
}

drops_fits : (i j : ℕ) (q : Polarity) (e : Pat) → i ≡ j → DropsAs q e → TypeFits (MailboxTerm i q e) (MailboxTerm j Sending One)
drops_fits i j Sending e face d = record { interface = face; polarity = refl; usage = tt; pattern = λ w k. subst (In e) (sym k) d }
drops_fits i j Receiving e face d = absurd d

pub asked_fits : (s : ℕ → Pat) (t : TypeOf) (k : Kind) (o need : Option MailboxType) → kind_of_type t ≡ k → NamePasses t o → PassesTo o (need_under s need) → TypeFits t (result_under s (asked_as k need))
asked_fits s (BaseTerm b) (Plain c) o need e h k = cc
asked_fits s (BaseTerm b) (MailboxOf j) o need e h k = cc
asked_fits s (MailboxTerm i q f) (Plain c) o need e h k = cc
asked_fits s (MailboxTerm i q f) (MailboxOf j) None None e h k = let face : i ≡ j = cc in drops_fits i j q f face h
asked_fits s (MailboxTerm i q f) (MailboxOf j) (Some a) None e h k =
    let face : i ≡ j = cc in drops_fits i j q f face (subst (λ x. DropsAs x f) h.1 (subst (DropsAs a.polarity) h.2 k))
asked_fits s (MailboxTerm i q f) (MailboxOf j) None (Some b) e h k = absurd k
asked_fits s (MailboxTerm i q f) (MailboxOf j) (Some a) (Some b) e h k = let face : i ≡ j = cc in named_fits s i j q f a b face h.1 h.2 k

-- what the body's environment has beside the name passes to what it needs beside the name
beside_name : (s : ℕ → Pat) (x : Option ℕ) (g : TypeEnv) (needs : Needs) → EnvPasses g (env_at s needs) → (z : ℕ) → PassesTo (without_name x g z) (env_at s (body_needs x needs) z)
beside_name s None g needs h z = subst (λ o. PassesTo (g z) (need_under s o)) (sym (need_but [] needs z)) (h z)
beside_name s (Some x) g needs h z =
    subst (λ o. PassesTo (without x g z) (need_under s o)) (sym (need_but (x ∷ []) needs z))
    (subst (λ b. PassesTo (if b then None else g z) (need_under s (if nat_eq z x || false then None else need_of needs z))) (eq_turn z x)
    (elim (nat_eq z x) as (λ b. PassesTo (if b then None else g z) (need_under s (if b || false then None else need_of needs z))) [
      | true ↦ tt
      | false ↦ h z
    ]))

name_passed : (s : ℕ → Pat) (x : Option ℕ) (g : TypeEnv) (needs : Needs) → EnvPasses g (env_at s needs) → PassesTo (name_type x g) (need_under s (name_need x needs))
name_passed s None g needs h = tt
name_passed s (Some x) g needs h = h x

-- a let whose parts are sound
let_sound : (y : Typing) (s : ℕ → Pat) (n k m b : ℕ) (x : Option ℕ) (body bound : Found) → EnvSplits (y.envs n) (y.envs m) (without_name x (y.envs b)) → Sound s (y.envs b) body → Sound s (y.envs m) bound → GivesFrom y s k (let_gathered n k bound.needs (body_needs x body.needs)).vars → Sound s (y.envs n) (let_found n k x body bound)
let_sound y s n k m b x body bound splits sb sm gives =
    let inner : Needs = body_needs x body.needs in
    let outer : Needs = bound.needs in
    let names : List ℕ = names_of_two outer inner in
    let one : ℕ → ℕ → Option Combined = λ j z. both_parts n j z (need_of outer z) (need_of inner z) in
    let Pass : ℕ → ℕ → Option Combined → Type 0 = λ j z o. PartsPass s (y.envs n z) (need_of outer z) (need_of inner z) o in
    let each : Each Pass one k names =
    each_map (EachGives y s) Pass one
    (λ j z g.
    parts_pass y s n j z (y.envs n z) (y.envs m z) (without_name x (y.envs b) z) (need_of outer z) (need_of inner z) refl
    (splits z) (sm.passes z) (beside_name s x (y.envs b) body.needs sb.passes z) g)
    k names (gather_gives y s one k names gives) in
    record {
      clean = nil_join body.findings (bound.findings ++ let_findings n outer inner) sb.clean
          (nil_join bound.findings (let_findings n outer inner) sm.clean
          (nil_join (each_unless (λ z. in_order (need_of outer z) (need_of inner z)) OrderRule (λ z. AtNode n) names) (each_unless (λ z. one_receives (need_of outer z) (need_of inner z)) DoubleRule (λ z. AtNode n) names)
          (each_none (λ z. in_order (need_of outer z) (need_of inner z)) OrderRule (λ z. AtNode n) names (each_all (λ z. in_order (need_of outer z) (need_of inner z) ≡ true) one k names (each_map Pass (λ j z o. in_order (need_of outer z) (need_of inner z) ≡ true) one (λ j z q. q.order) k names each)))
          (each_none (λ z. one_receives (need_of outer z) (need_of inner z)) DoubleRule (λ z. AtNode n) names (each_all (λ z. one_receives (need_of outer z) (need_of inner z) ≡ true) one k names (each_map Pass (λ j z o. one_receives (need_of outer z) (need_of inner z) ≡ true) one (λ j z q. q.one) k names each)))));
      passes = λ z.
          gather_needs (λ z o. PassesTo (y.envs n z) (need_under s o)) one k names
          (each_map Pass (EachNeed (λ z o. PassesTo (y.envs n z) (need_under s o))) one (λ j z q. q.passes) k names each)
          z
          (λ off.
          let none = no_name outer inner z off in
          (parts_pass y s n 0 z (y.envs n z) (y.envs m z) (without_name x (y.envs b) z) None None refl (splits z)
          (subst (λ o. PassesTo (y.envs m z) (need_under s o)) none.0 (sm.passes z))
          (subst (λ o. PassesTo (without_name x (y.envs b) z) (need_under s o)) none.1 (beside_name s x (y.envs b) body.needs sb.passes z)) tt).passes);
      holds = all_join (Holds s) body.constraints (bound.constraints ++ (let_gathered n k outer inner).constraints) sb.holds
          (all_join (Holds s) bound.constraints (let_gathered n k outer inner).constraints sm.holds
          (gather_holds (Holds s) one k names (each_map Pass (EachHolds (Holds s)) one (λ j z q. q.holds) k names each)));
    }

pub bound_sound : (p : Program) (y : Typing) (s : ℕ → Pat) (part : Part) (n k m b : ℕ) (x : Option ℕ) (dm : Node) (asked : TypeOf) → node_at p m ≡ Some dm → kind_of_type (y.results m) ≡ dm.kind → TypeFits (y.results b) (result_under s asked) → EnvSplits (y.envs n) (y.envs m) (without_name x (y.envs b)) → NamePasses (y.results m) (name_type x (y.envs b)) → PartSound y s part b → PartSound y s part m → GivesFrom y s k (bound_found p part n k x m (part b asked k)).vars → Sound s (y.envs n) (bound_found p part n k x m (part b asked k))
bound_sound p y s part n k m b x dm asked at kind fit splits name pb pm gives =
    let body : Found = part b asked k in
    let wanted : TypeOf = asked_of (node_at p m) (name_need x body.needs) in
    let j : ℕ = k + length body.vars in
    let bound : Found = part m wanted j in
    let own = let_gathered n (j + length bound.vars) bound.needs (body_needs x body.needs) in
    let first = gives_parts y s k body.vars (bound.vars ++ own.vars) gives in
    let second = gives_parts y s j bound.vars own.vars first.1 in
    let sb = pb asked k fit first.0 in
    let fits : TypeFits (y.results m) (result_under s wanted) =
    subst (λ o. TypeFits (y.results m) (result_under s (asked_of o (name_need x body.needs)))) (sym at)
    (asked_fits s (y.results m) dm.kind (name_type x (y.envs b)) (name_need x body.needs) kind name (name_passed s x (y.envs b) body.needs sb.passes)) in
    let sm = pm wanted j fits second.0 in
    let_sound y s n (j + length bound.vars) m b x body bound splits sb sm second.1
