-- A let whose parts share no variable needs no certificates.
use Rattle.std.proofs.Common.{map, Bool, ◌≡◌, ℕ, true, false, List, [], ◌∷◌, ◌++◌, ◌⊎◌, inl, inr, ⊎_elim, Option, Some, None, nat_eq, refl, sym, ap, ◌∙◌, subst}
use Rattle.std.specs.Prelude.{slice_get, if◌then◌else◌}
use Rattle.std.specs.List.{AllByRecursion, flat_map}
use Rattle.std.specs.Map.{keys_of}
use Rattle.std.proofs.lemmas.Bool.{cases_Bool, cond-false, eqb-true}
use Rattle.std.proofs.lemmas.Grind.{flat_map-append}
use Rattle.pat_semantics_spec.specs.Values.{Kind, Plain, MailboxOf}
use Rattle.pat_semantics_spec.specs.Programs.{Function, Node, Program, Let}
use Rattle.pat_derivation_spec.specs.Types.{MailboxType, TypeOf, TypeEnv}
use Rattle.pat_derivation_spec.specs.Typings.{without_name}
use Rattle.pat_type_schemes_spec.specs.NodeTypes.{Needs, need_of}
use Rattle.pat_inclusion_spec.specs.Values.{Scope}
use Rattle.pat_derivation_spec.specs.Derivations.{Line, Derivation, line_at}
use Rattle.pat_derivation_spec.specs.Demands.{Demand, Divide, There, inclusions_of}
use Rattle.pat_derivation_spec.specs.Conditions.{divides, name_demands, named_demands, let_demands, but_not_name, then_others, term_demands, demands}
use Rattle.pat_derivation_spec.specs.Truth.{place}
use Rattle.pat_solve_spec.specs.Derived.{Form, AreCertsFor, all_made}
use Rattle.pat_solve_spec.specs.Laws.{IsWritten}
use Rattle.pat_solve_derivation.specs.certificates.Apart.{needs_of, AreApart, NeedsNone}
use Rattle.pat_solve_derivation.proofs.Added.{certs_both, none_for_body, none_for_bound}

-- ---- what is apart

pub nothing_apart : (ns : Needs) → AreApart [] ns
nothing_apart ns x = inl refl

pub one_more_apart : (e : ℕ × MailboxType) (ms ns : Needs) → need_of ns e.0 ≡ None → AreApart ms ns → AreApart (e ∷ ms) ns
one_more_apart e ms ns none h x =
    ⊎_elim
    (λ t. inr (subst (λ y. need_of ns y ≡ None) (sym (eqb-true x e.0 t)) none))
    (λ f. ⊎_elim (λ l. inl (cond-false (nat_eq x e.0) (Some e.1) (need_of ms x) f ∙ l)) inr (h x))
    (cases_Bool (nat_eq x e.0))

-- ---- what a let needs

written_before : (ds es : List Demand) → AllByRecursion IsWritten (ds ++ es) → AllByRecursion IsWritten ds
written_before [] es h = tt
written_before (d ∷ ds) es h = (h.0, written_before ds es h.1)

module _ (s : Scope) (forms : ℕ → Form) where
  abbrev NeedNone : List Demand → Type 0
  NeedNone ds = AreCertsFor s forms (flat_map inclusions_of ds) []

  both_none : (ds es : List Demand) → NeedNone ds → NeedNone es → NeedNone (ds ++ es)
  both_none ds es f g =
      subst (λ qs. AreCertsFor s forms qs []) (sym (flat_map-append inclusions_of ds es))
      (certs_both s forms (flat_map inclusions_of ds) (flat_map inclusions_of es) [] [] f g)

  by_one : (a b c : Option MailboxType) → (b ≡ None) ⊎ (c ≡ None) → IsWritten (Divide a b c) → AreCertsFor s forms (inclusions_of (Divide a b c)) []
  by_one a None c h w = none_for_body s forms (Divide a None c) a c refl w
  by_one a (Some b) None h w = none_for_bound s forms (Divide a (Some b) None) a b refl w
  by_one a (Some b) (Some c) (inl e) w = absurd (cc)
  by_one a (Some b) (Some c) (inr e) w = absurd (cc)

  divided : (xs : List ℕ) (g m n : TypeEnv) → ((x : ℕ) → (m x ≡ None) ⊎ (n x ≡ None)) → AllByRecursion IsWritten (divides xs g m n) → NeedNone (divides xs g m n)
  divided [] g m n h w = all_made
  divided (x ∷ xs) g m n h w =
      certs_both s forms (inclusions_of (Divide (g x) (m x) (n x))) (flat_map inclusions_of (divides xs g m n)) [] [] (by_one (g x) (m x) (n x) (h x) w.0) (divided xs g m n h w.1)

  of_name : (k : Option Kind) (t : TypeOf) (o : Option MailboxType) → NeedNone (name_demands k t o)
  of_name None t o = all_made
  of_name (Some (Plain b)) t o = all_made
  of_name (Some (MailboxOf i)) t o = all_made

  named : (vars : List Kind) (m n : Line) (x : Option ℕ) → NeedNone (named_demands vars m n x)
  named vars m n None = all_made
  named vars m n (Some x) = of_name (slice_get vars x) m.of.result (need_of n.of.needs x)

  there : (xs : List ℕ) (g h : TypeEnv) → NeedNone (map (λ x. There (g x) (h x)) xs)
  there [] g h = all_made
  there (x ∷ xs) g h = there xs g h

  without : (but : Option ℕ) (g : TypeEnv) (x : ℕ) → g x ≡ None → without_name but g x ≡ None
  without None g x e = e
  without (Some y) g x e = go (nat_eq y x)
    where
      go : (b : Bool) → (if b then None else g x) ≡ None
      go true = refl
      go false = e

  of_let : (vars : List Kind) (l : Line) (x : Option ℕ) (m n : Option Line) → AreApart (needs_of m) (needs_of n) → AllByRecursion IsWritten (let_demands vars l x m n) → NeedNone (let_demands vars l x m n)
  of_let vars l x None None h w = all_made
  of_let vars l x (Some m) None h w = there (but_not_name x (keys_of m.of.needs)) (need_of l.of.needs) (need_of m.of.needs)
  of_let vars l x None (Some n) h w = there (but_not_name x (keys_of n.of.needs)) (need_of l.of.needs) (need_of n.of.needs)
  of_let vars l x (Some m) (Some n) h w =
      let bound = without_name x (need_of m.of.needs) in
      let body = without_name x (need_of n.of.needs) in
      let names = then_others (then_others (keys_of l.of.needs) (but_not_name x (keys_of m.of.needs))) (but_not_name x (keys_of n.of.needs)) in
      let ds = divides names (need_of l.of.needs) bound body in
      both_none ds (named_demands vars m n x)
      (divided names (need_of l.of.needs) bound body
      (λ z. ⊎_elim (λ e. inl (without x (need_of m.of.needs) z e)) (λ e. inr (without x (need_of n.of.needs) z e)) (h z))
      (written_before ds (named_demands vars m n x) w))
      (named vars m n x)

pub let_needs_none : (p : Program) (d : Derivation) (n : ℕ) (c : Node) (g : Function) (l : Line) (x : Option ℕ) (bound body : ℕ) → c.core ≡ Let x bound body → nat_eq g.body n ≡ false → AreApart (needs_of (line_at d bound)) (needs_of (line_at d body)) → NeedsNone p d (place n c g l)
let_needs_none p d n c g l x bound body core later apart s forms w =
    subst (NeedNone s forms) (sym are) (of_let s forms g.vars l x (line_at d bound) (line_at d body) apart (subst (AllByRecursion IsWritten) are w))
  where
    are : demands p d (place n c g l) ≡ let_demands g.vars l x (line_at d bound) (line_at d body)
    are =
        ap (λ ds. ds ++ term_demands p d g.vars l c.core) (cond-false (nat_eq g.body n) _ [] later)
        ∙ ap (term_demands p d g.vars l) core
