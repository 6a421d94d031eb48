-- A spawn and a let: what is found of them types them.
use Rattle.std.proofs.Common.{◌≡◌, ℕ, ◌+◌, true, false, not, ◌||◌, ◌&&◌, nat_eq, if◌then◌else◌, List, [], ◌∷◌, ◌++◌, length, Option, Some, None, refl, sym, ap, ◌∙◌, subst}
use Rattle.std.specs.Prelude.{option_map, slice_get}
use Rattle.std.proofs.lemmas.Bool.{or_left, or_right, and_from}
use Rattle.pat_words_spec.specs.Words.{Word, no_word, plus}
use Rattle.pat_words_spec.specs.Patterns.{Pat, Var, In, prod_of}
use Rattle.pat_semantics_spec.specs.Values.{BaseUnit, Kind, Plain, MailboxOf}
use Rattle.pat_semantics_spec.specs.Programs.{Polarity, Sending, Receiving, Let, Spawn, Node, Program, node_at, is_among, is_free, option_list, KindAt}
use Rattle.pat_semantics_spec.specs.WellFormed.{WellFormed, CoreKinds, HasKind, IsPartOf}
use Rattle.pat_semantics_laws.proofs.Lists.{nil_parts, all_join}
use Rattle.pat_type_system_spec.specs.Types.{MailboxType, mailbox_type, TypeOf, BaseTerm, kind_of_type, PassesTo, SplitsTo, TypeEnv, EnvPasses, EnvSplits, returnable}
use Rattle.pat_type_system_spec.specs.Typings.{Typing, HasWord, TypeHasWord, NamePasses, without_name, name_type}
use Rattle.pat_type_system_laws.proofs.Passing.{usage_any, pattern_same}
use Rattle.pat_inclusion_spec.specs.Values.{replaced}
use Rattle.pat_type_schemes_spec.specs.NodeTypes.{need_under, result_under, Needs, need_of}
use Rattle.pat_infer_spec.specs.Constraints.{AtNode, OrderRule, DoubleRule, each_unless, Found}
use Rattle.pat_infer_spec.specs.Needs.{needs_but, needs_second, names_of_two, Combined}
use Rattle.pat_infer_spec.specs.BothParts.{in_order, one_receives, parts_joined, both_parts}
use Rattle.pat_infer_spec.specs.Walk.{Part, asked_as, asked_of, name_need, spawn_found, body_needs, let_gathered, let_findings, bound_found}
use Rattle.pat_inclusion_laws.proofs.Replaced.{prod_from}
use Rattle.pat_infer_laws.proofs.Lookups.{eq_turn, need_but, as_second, need_second, no_name}
use Rattle.pat_infer_laws.proofs.Gathering.{all_parts, none_each, all_each, each_with, each_any, need_with, Each, EachHolds, holds_gather, EachNeed, gather_needs}
use Rattle.pat_infer_laws.proofs.BothLaws.{Holds, parts_split}
use Rattle.pat_infer_laws.proofs.TermSound.{env_at}
use Rattle.pat_infer_laws.proofs.Facts.{HasWordUnder, NeedFits, NeedsFit, EntryIn, EntryTyped, Allowed, PartTypes, CoreFound, free_here, kind_here, kind_up}

-- a need of a part's that is a need of the node's
pub fits_up : (p : Program) (Ok : MailboxType → Type 0) (n m z : ℕ) (d : Node) → node_at p n ≡ Some d → IsPartOf p n d m → (a : MailboxType) → NeedFits p Ok m z a → is_free p z n ≡ true → NeedFits p Ok n z a
fits_up p Ok n m z d at part a h free = record { kind = kind_up p n m z d at part (MailboxOf a.interface) h.kind; word = h.word; free = free }

-- ---- spawns

passes_back : (s : ℕ → Pat) (o : Option MailboxType) → PassesTo (returnable (need_under s (option_map as_second o))) (need_under s o)
passes_back s None = tt
passes_back s (Some a) = record {
  interface = refl;
  polarity = refl;
  usage = usage_any a.usage;
  pattern = pattern_same a.polarity (replaced s a.pattern) (replaced s a.pattern) refl;
}

pub second_some : (o : Option MailboxType) (a : MailboxType) → option_map as_second o ≡ Some a → (b : MailboxType) × (o ≡ Some b) × (as_second b ≡ a)
second_some None a h = cc
second_some (Some b) a h = (b, refl, cc)

pub spawn_typed : (p : Program) (wf : WellFormed p) (y : Typing) (s : ℕ → Pat) (part : Part) (n : ℕ) (d : Node) (at : node_at p n ≡ Some d) (m : ℕ) → d.core ≡ Spawn m → IsPartOf p n d m → PartTypes p y s part m → (asked : TypeOf) (k : ℕ) → Allowed y s (spawn_found (part m (BaseTerm BaseUnit) k)) → CoreFound p y s n asked (Spawn m) (spawn_found (part m (BaseTerm BaseUnit) k))
spawn_typed p wf y s part n d at m is inside types asked k allowed =
    let kinds = subst (CoreKinds p (wf.nodes n d at).function.vars d.kind) is (wf.nodes n d at).kinds in
    let r : Found = part m (BaseTerm BaseUnit) k in
    let inner = types (BaseTerm BaseUnit) k kinds.1.0 kinds.1.1 (sym kinds.1.2) tt (record { clean = allowed.clean; holds = allowed.holds; entries = allowed.entries }) in
    record {
      term = (
        inner.result,
        subst (λ (g : TypeEnv). EnvPasses (λ x. returnable (env_at s (needs_second r.needs) x)) g) (sym inner.env)
            (λ z. subst (λ o. PassesTo (returnable (need_under s o)) (env_at s r.needs z)) (sym (need_second r.needs z)) (passes_back s (need_of r.needs z))),
      );
      fits = λ z a h.
          let q = second_some (need_of r.needs z) a (sym (need_second r.needs z) ∙ h) in
          let there = inner.fits z q.0 q.1 in
          let own = fits_up p (HasWordUnder s) n m z d at inside q.0 there (free_here p wf z n d at (Spawn m) is there.free) in
          subst (NeedFits p (HasWordUnder s) n z) q.2 (record { kind = own.kind; word = own.word; free = own.free });
      typed = inner.typed;
    }

-- ---- lets

-- the kind of a let's name, and of its bound part
abbrev pub NameKind : List Kind → Option ℕ → Kind → Type 0
NameKind vars None k = k ≡ Plain BaseUnit
NameKind vars (Some x) k = slice_get vars x ≡ Some k

pub let_kinds : (p : Program) (vars : List Kind) (k : Kind) (x : Option ℕ) (m b : ℕ) → CoreKinds p vars k (Let x m b) → HasKind p b k × ((e : Node) × (node_at p m ≡ Some e) × NameKind vars x e.kind)
let_kinds p vars k None m b h = (h.1, (h.0.0, h.0.1, h.0.2))
let_kinds p vars k (Some x) m b h = (h.3, (h.2.0, h.2.1, h.1 ∙ ap (λ j. Some j) (sym h.2.2)))

pub asked_kind : (k : Kind) (need : Option MailboxType) → kind_of_type (asked_as k need) ≡ k
asked_kind (Plain b) need = refl
asked_kind (MailboxOf i) None = refl
asked_kind (MailboxOf i) (Some a) = refl

asked_word : (s : ℕ → Pat) (k : Kind) (need : Option MailboxType) → ((a : MailboxType) → need ≡ Some a → HasWord a.polarity (replaced s a.pattern)) → TypeHasWord (result_under s (asked_as k need))
asked_word s (Plain b) need h = tt
asked_word s (MailboxOf i) None h = (no_word, refl)
asked_word s (MailboxOf i) (Some a) h = h a refl

-- what the body needs beside the name
beside_same : (s : ℕ → Pat) (x : Option ℕ) (needs : Needs) (z : ℕ) → env_at s (body_needs x needs) z ≡ without_name x (env_at s needs) z
beside_same s None needs z = ap (need_under s) (need_but [] needs z)
beside_same s (Some x) needs z =
    ap (need_under s) (need_but (x ∷ []) needs z)
    ∙ (elim (nat_eq z x) as (λ b. need_under s (if b || false then None else need_of needs z) ≡ (if b then None else env_at s needs z)) [ true ↦ refl | false ↦ refl ])
    ∙ ap (λ b. if b then None else env_at s needs z) (eq_turn z x)

pub but_some : (xs : List ℕ) (needs : Needs) (z : ℕ) (a : MailboxType) → need_of (needs_but xs needs) z ≡ Some a → (is_among z xs ≡ false) × (need_of needs z ≡ Some a)
but_some xs needs z a h =
    (elim (is_among z xs) as (λ t. is_among z xs ≡ t → (if t then None else need_of needs z) ≡ Some a → (is_among z xs ≡ false) × (need_of needs z ≡ Some a)) [
      | true ↦ λ q k. cc
      | false ↦ λ q k. (q, k)
    ]) refl (sym (need_but xs needs z) ∙ h)

-- what a let needs is as what its parts need
sends_word : (q : Polarity) (e : Pat) → q ≡ Sending → HasWord q e → (w : Word) × In e w
sends_word Sending e h w = w
sends_word Receiving e h w = cc

joined_fits : (p : Program) (s : ℕ → Pat) (n j z : ℕ) (b c : MailboxType) (q r : Polarity) → b.polarity ≡ q → c.polarity ≡ r → NeedFits p (HasWordUnder s) n z b → NeedFits p (HasWordUnder s) n z c → (a : MailboxType) → need_with (parts_joined n j z q r b c) ≡ Some a → NeedFits p (HasWordUnder s) n z a
joined_fits p s n j z b c Sending Sending bq cr fb fc a h =
    let same : mailbox_type c.interface Sending (prod_of b.pattern c.pattern) c.usage ≡ a = cc in
    let u = sends_word b.polarity (replaced s b.pattern) bq fb.word in
    let v = sends_word c.polarity (replaced s c.pattern) cr fc.word in
    let own : NeedFits p (HasWordUnder s) n z (mailbox_type c.interface Sending (prod_of b.pattern c.pattern) c.usage) = record {
      kind = fc.kind;
      word = (plus u.0 v.0, prod_from s b.pattern c.pattern (plus u.0 v.0) (u.0, v.0, u.1, v.1, refl));
      free = fc.free;
    } in
    subst (NeedFits p (HasWordUnder s) n z) same own
joined_fits p s n j z b c Sending Receiving bq cr fb fc a h =
    let same : mailbox_type c.interface Receiving (Var j) c.usage ≡ a = cc in
    let own : NeedFits p (HasWordUnder s) n z (mailbox_type c.interface Receiving (Var j) c.usage) = record { kind = fc.kind; word = tt; free = fc.free } in
    subst (NeedFits p (HasWordUnder s) n z) same own
joined_fits p s n j z b c Receiving r bq cr fb fc a h =
    let same : mailbox_type c.interface Receiving (Var j) c.usage ≡ a = cc in
    let own : NeedFits p (HasWordUnder s) n z (mailbox_type c.interface Receiving (Var j) c.usage) = record { kind = fc.kind; word = tt; free = fc.free } in
    subst (NeedFits p (HasWordUnder s) n z) same own

both_fits : (p : Program) (s : ℕ → Pat) (n j z : ℕ) (b c : Option MailboxType) → ((a : MailboxType) → b ≡ Some a → NeedFits p (HasWordUnder s) n z a) → ((a : MailboxType) → c ≡ Some a → NeedFits p (HasWordUnder s) n z a) → (a : MailboxType) → need_with (both_parts n j z b c) ≡ Some a → NeedFits p (HasWordUnder s) n z a
both_fits p s n j z None None fb fc a h = cc
both_fits p s n j z (Some b) None fb fc a h = fb a h
both_fits p s n j z None (Some c) fb fc a h = fc a h
both_fits p s n j z (Some b) (Some c) fb fc a h =
    joined_fits p s n j z b c b.polarity c.polarity refl refl (fb b refl) (fc c refl) a h

-- needs of one variable are of one interface
pub one_face : (p : Program) (Ok : MailboxType → Type 0) (wf : WellFormed p) (n z : ℕ) (d : Node) (at : node_at p n ≡ Some d) (b c : MailboxType) → NeedFits p Ok n z b → NeedFits p Ok n z c → b.interface ≡ c.interface
one_face p Ok wf n z d at b c fb fc =
    let kb = kind_here p n z d at (MailboxOf b.interface) (wf.nodes n d at) fb.kind in
    let kc = kind_here p n z d at (MailboxOf c.interface) (wf.nodes n d at) fc.kind in
    let same : Some (MailboxOf b.interface) ≡ Some (MailboxOf c.interface) = sym kb ∙ kc in
    cc

-- the name of a let
name_fits : (p : Program) (s : ℕ → Pat) (wf : WellFormed p) (n : ℕ) (d : Node) (at : node_at p n ≡ Some d) (x : Option ℕ) (k : Kind) (needs : Needs) → NameKind (wf.nodes n d at).function.vars x k → ((z : ℕ) (a : MailboxType) → need_of needs z ≡ Some a → KindAt p n z (MailboxOf a.interface)) → NamePasses (result_under s (asked_as k (name_need x needs))) (name_type x (env_at s needs))
name_fits p s wf n d at None k needs named fits = subst (λ j. NamePasses (result_under s (asked_as j None)) None) (sym named) refl
name_fits p s wf n d at (Some x) k needs named fits = go k (need_of needs x) named (fits x)
  where
    go : (k : Kind) (o : Option MailboxType) → slice_get (wf.nodes n d at).function.vars x ≡ Some k → ((a : MailboxType) → o ≡ Some a → KindAt p n x (MailboxOf a.interface)) → NamePasses (result_under s (asked_as k o)) (need_under s o)
    go (Plain b) None named fits = refl
    go (Plain b) (Some a) named fits =
        let clash : Some (Plain b) ≡ Some (MailboxOf a.interface) = sym named ∙ kind_here p n x d at (MailboxOf a.interface) (wf.nodes n d at) (fits a refl) in cc
    go (MailboxOf i) None named fits = refl
    go (MailboxOf i) (Some a) named fits =
        let same : Some (MailboxOf i) ≡ Some (MailboxOf a.interface) = sym named ∙ kind_here p n x d at (MailboxOf a.interface) (wf.nodes n d at) (fits a refl) in
        let face : a.interface ≡ i = cc in
        (face, refl, refl)

pub let_typed : (p : Program) (wf : WellFormed p) (y : Typing) (s : ℕ → Pat) (part : Part) (n : ℕ) (d : Node) (at : node_at p n ≡ Some d) (x : Option ℕ) (m b : ℕ) → d.core ≡ Let x m b → IsPartOf p n d m → IsPartOf p n d b → PartTypes p y s part m → PartTypes p y s part b → (asked : TypeOf) (k : ℕ) → kind_of_type asked ≡ d.kind → TypeHasWord (result_under s asked) → Allowed y s (bound_found p part n k x m (part b asked k)) → CoreFound p y s n asked (Let x m b) (bound_found p part n k x m (part b asked k))
let_typed p wf y s part n d at x m b is inside_m inside_b types_m types_b asked k kind word allowed =
    let kinds = let_kinds p (wf.nodes n d at).function.vars d.kind x m b (subst (CoreKinds p (wf.nodes n d at).function.vars d.kind) is (wf.nodes n d at).kinds) in
    let body : Found = part b asked k in
    let wanted : TypeOf = asked_of (node_at p m) (name_need x body.needs) in
    let j : ℕ = k + length body.vars in
    let bound : Found = part m wanted j in
    let inner : Needs = body_needs x body.needs in
    let outer : Needs = bound.needs in
    let l : ℕ = j + length bound.vars in
    let own = let_gathered n l outer inner in
    let names : List ℕ = names_of_two outer inner in
    let one : ℕ → ℕ → Option Combined = λ i z. both_parts n i z (need_of outer z) (need_of inner z) in
    let clean1 = nil_parts body.findings (bound.findings ++ let_findings n outer inner) allowed.clean in
    let clean2 = nil_parts bound.findings (let_findings n outer inner) clean1.1 in
    let holds1 = all_parts (Holds s) body.constraints (bound.constraints ++ own.constraints) allowed.holds in
    let holds2 = all_parts (Holds s) bound.constraints own.constraints holds1.1 in
    let entries = all_parts (EntryIn y s) body.nodes bound.nodes allowed.entries in
    let tb = types_b asked k kinds.0.0 kinds.0.1 (kind ∙ sym kinds.0.2) word (record { clean = clean1.0; holds = holds1.0; entries = entries.0 }) in
    let wanted_is : wanted ≡ asked_as kinds.1.0.kind (name_need x body.needs) = ap (λ o. asked_of o (name_need x body.needs)) kinds.1.1 in
    let wanted_kind : kind_of_type wanted ≡ kinds.1.0.kind = ap kind_of_type wanted_is ∙ asked_kind kinds.1.0.kind (name_need x body.needs) in
    let wanted_word : TypeHasWord (result_under s wanted) =
    subst (λ t. TypeHasWord (result_under s t)) (sym wanted_is)
    (asked_word s kinds.1.0.kind (name_need x body.needs) (named_word p s b x body.needs tb.fits)) in
    let tm = types_m wanted j kinds.1.0 kinds.1.1 wanted_kind wanted_word (record { clean = clean2.0; holds = holds2.0; entries = entries.1 }) in
    let fit_outer : (z : ℕ) (a : MailboxType) → need_of outer z ≡ Some a → NeedFits p (HasWordUnder s) n z a =
    λ z a h. let f = tm.fits z a h in fits_up p (HasWordUnder s) n m z d at inside_m a f (free_here p wf z n d at (Let x m b) is (or_left (is_free p z m) (is_free p z b && not (is_among z (option_list x))) f.free)) in
    let fit_inner : (z : ℕ) (a : MailboxType) → need_of inner z ≡ Some a → NeedFits p (HasWordUnder s) n z a =
    λ z a h.
    let q = but_some (option_list x) body.needs z a h in
    let f = tb.fits z a q.1 in
    fits_up p (HasWordUnder s) n b z d at inside_b a f
    (free_here p wf z n d at (Let x m b) is (or_right (is_free p z m) (is_free p z b && not (is_among z (option_list x))) (and_from (is_free p z b) (not (is_among z (option_list x))) f.free (ap not q.0)))) in
    let rules = nil_parts (each_unless (λ z. in_order (need_of outer z) (need_of inner z)) OrderRule (λ z. AtNode n) names) (each_unless (λ z. one_receives (need_of outer z) (need_of inner z)) DoubleRule (λ z. AtNode n) names) clean2.1 in
    let orders = none_each (λ z. in_order (need_of outer z) (need_of inner z)) OrderRule (λ z. AtNode n) names rules.0 in
    let doubles = none_each (λ z. one_receives (need_of outer z) (need_of inner z)) DoubleRule (λ z. AtNode n) names rules.1 in
    let Order : ℕ → ℕ → Option Combined → Type 0 = λ i z o. in_order (need_of outer z) (need_of inner z) ≡ true in
    let Double : ℕ → ℕ → Option Combined → Type 0 = λ i z o. one_receives (need_of outer z) (need_of inner z) ≡ true in
    let Split : ℕ → Option MailboxType → Type 0 = λ z o. SplitsTo (need_under s o) (need_under s (need_of outer z)) (need_under s (need_of inner z)) in
    let both : Each (λ i z o. Order i z o × Double i z o) one l names =
    each_with Order Double (λ i z o. Order i z o × Double i z o) one (λ i z a c. (a, c)) l names
    (all_each (λ z. in_order (need_of outer z) (need_of inner z) ≡ true) one l names orders)
    (all_each (λ z. one_receives (need_of outer z) (need_of inner z) ≡ true) one l names doubles) in
    let split : Each (EachNeed Split) one l names =
    each_with (λ i z o. Order i z o × Double i z o) (EachHolds (Holds s)) (EachNeed Split) one
    (λ i z q h.
    parts_split s n i z (need_of outer z) (need_of inner z)
    (λ b' c' eb ec. one_face p (HasWordUnder s) wf n z d at b' c' (fit_outer z b' eb) (fit_inner z c' ec)) q.0 q.1 h)
    l names both (holds_gather (Holds s) one l names holds2.1) in
    let splits : EnvSplits (env_at s own.needs) (env_at s outer) (without_name x (env_at s body.needs)) =
    λ z.
    subst (λ o. SplitsTo (env_at s own.needs z) (env_at s outer z) o) (beside_same s x body.needs z)
    (gather_needs Split one l names split z
    (λ off.
    let none = no_name outer inner z off in
    subst (λ o. SplitsTo None (need_under s o) (need_under s (need_of inner z))) (sym none.0)
    (subst (λ o. SplitsTo None None (need_under s o)) (sym none.1) tt))) in
    record {
      term = (
        tb.result,
        subst (λ (g : TypeEnv). EnvSplits (env_at s own.needs) g (without_name x (y.envs b))) (sym tm.env)
            (subst (λ (g : TypeEnv). EnvSplits (env_at s own.needs) (env_at s outer) (without_name x g)) (sym tb.env) splits),
        subst (λ (g : TypeEnv). NamePasses (y.results m) (name_type x g)) (sym tb.env)
            (subst (λ t. NamePasses t (name_type x (env_at s body.needs))) (sym (tm.result ∙ ap (result_under s) wanted_is))
            (name_fits p s wf n d at x kinds.1.0.kind body.needs kinds.1.2 (λ z a h. kind_up p n b z d at inside_b (MailboxOf a.interface) (tb.fits z a h).kind))),
      );
      fits = λ z.
          gather_needs (λ z o. (a : MailboxType) → o ≡ Some a → NeedFits p (HasWordUnder s) n z a) one l names
          (each_any (EachNeed (λ z o. (a : MailboxType) → o ≡ Some a → NeedFits p (HasWordUnder s) n z a)) one
          (λ i z. both_fits p s n i z (need_of outer z) (need_of inner z) (fit_outer z) (fit_inner z)) l names)
          z (λ off a h. cc);
      typed = all_join (EntryTyped p y) body.nodes bound.nodes tb.typed tm.typed;
    }
  where
    named_word : (p : Program) (s : ℕ → Pat) (b : ℕ) (x : Option ℕ) (needs : Needs) → NeedsFit p (HasWordUnder s) b needs → (a : MailboxType) → name_need x needs ≡ Some a → HasWord a.polarity (replaced s a.pattern)
    named_word p s b None needs fits a h = cc
    named_word p s b (Some w) needs fits a h = (fits w a h).word
