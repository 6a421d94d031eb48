-- The nodes of a term that breaks no rule are a block.
use Rattle.std.proofs.Common.{◌≡◌, ◌+◌, ◌<◌, ◌≤◌, ℕ, suc, Bool, true, false, ◌||◌, ◌&&◌, not, nat_eq, List, [], ◌∷◌, ◌++◌, length, Option, Some, None, refl, ap, sym, ◌∙◌, subst, arith, ⊎_elim, length-append}
use Rattle.std.proofs.lemmas.List.{length-map}
use Rattle.std.specs.Prelude.{option_and_then, slice_get, map, bytes_eq}
use Rattle.std.specs.List.{AllByRecursion, IsDistinct, list_any, flat_map}
use Rattle.std.proofs.lemmas.Bool.{or_cases, eqb-true}
use Rattle.std.proofs.lemmas.Option.{slice_get_within}
use Rattle.std.proofs.lemmas.Map.Keys.{IsDistinct-cons}
use Rattle.std.proofs.lemmas.Slice.Eq.{bytes_eq-Decides}
use Rattle.pat_words_spec.specs.Patterns.{One}
use Rattle.pat_semantics_spec.specs.Values.{BaseBool, Kind, Plain, MailboxOf, Literal, UnitConst, occurs}
use Rattle.pat_semantics_spec.specs.Programs.{TagDecl, Interface, Function, Core, Val, Let, Call, If, Print, New, Send, Spawn, Guard, Node, Program, function_at, tag_at, kind_of, option_list, clause_bodies, clause_binders, clause_uses, is_among}
use Rattle.pat_semantics_spec.specs.WellFormed.{HasKind, HaveKinds, IsPatternOf, ClauseKinds, count_if, count_among}
use Rattle.pat_parser_spec.specs.Trees as tree
use Rattle.pat_resolver_spec.specs.Scopes.{Variable, variable, Scope, variable_of, unit_kind, known_kind, number_found, kind_of_expr, expr_at, is_shown, is_one_of, first_named, bind_names}
use Rattle.pat_resolver_spec.specs.Heads.{Heads, Signature, function_named, tags_of, tags_at, tag_names, tag_named, payload_kinds, interface_of_kind, clause_scope, pattern_of}
use Rattle.pat_resolver_spec.specs.Findings.{Finding, Twice, WrongArity, WrongKind, unless, own_kind, parts_findings, expr_findings, args_findings, pattern_findings, binders_in, clauses_binders_in, interface_called, guarded, kind_of_term, on_kind, on_mailbox, tag_findings, call_findings, new_findings, names_findings, Earlier, no_earlier, has_body, bodiless, term_findings, clauses_findings}
use Rattle.pat_resolver_spec.specs.Numbering.{known_number, number_of, expr_of, nodes_in, numbers_from, free_body, receives, node, nodes_of, clauses_nodes_of, kinds_for, vars_of, clauses_vars_of}
use Rattle.pat_resolver_laws.proofs.Counting.{none_first, none_second, passes, not_true, both_first, both_second, Counts, counts_none, counts_one, counts_both, counts_as, among_append}
use Rattle.pat_resolver_laws.proofs.Blocks.{Part, starts, TermFits, Block, Parts, no_parts, one_part, block}
use Rattle.pat_resolver_laws.proofs.Expressions.{found_there, found_named, numbers, ScopeFits, variable_kind, variable_in, own_same, shown_printable, kind_numbered, kind_needed, args_numbered, expr_scoped, args_scoped, pattern_closed, pattern_below}
use Rattle.pat_resolver_laws.proofs.Binding.{HasAt, has_first, has_second, has_here, has_next, kinds_for_length, vars_length, nodes_length, numbers_count, or_right, among_front, among_end, bound_or_outer, bind_fits, payloads_have_kinds, KindIsThere, ScopeIsThere, variable_is_there, expr_is_there, bind_is_there, there_is, tag_there}

pub clash : {b : Bool} → b ≡ true → b ≡ false → ⊥
clash t f = cc

pub no_distinct : {A : Type 0} (e : A → A → Bool) → IsDistinct e []
unfolding IsDistinct
no_distinct e = tt

pub right_nil : {A : Type 0} (xs : List A) → xs ++ [] ≡ xs
right_nil [] = refl
right_nil (x ∷ xs) = ap (λ ys. x ∷ ys) (right_nil xs)

or_left : (a b : Bool) → a ≡ true → (a || b) ≡ true
or_left true b h = refl
or_left false b h = cc

-- ---- what was looked up

pub call_found : (scope : Scope) (k : Kind) (g : tree.Name) (es : List tree.Expr) (at : tree.Span) (o : Option (ℕ × Signature)) → call_findings scope k g es at o ≡ []
    → (s : ℕ × Signature) × (o ≡ Some s) × (length es ≡ length s.1.params) × (args_findings scope (map kind_of s.1.params) es ≡ []) × (k ≡ kind_of s.1.result)
call_found scope k g es at None h = cc
call_found scope k g es at (Some s) h =
    let a = unless (nat_eq (length es) (length s.1.params)) WrongArity g.span in
    let b = args_findings scope (map kind_of s.1.params) es in
    let c = own_kind k (kind_of s.1.result) at in
    let ab = none_first (a ++ b) c h in
    (s, refl, eqb-true (length es) (length s.1.params) (passes (nat_eq (length es) (length s.1.params)) WrongArity g.span (none_first a b ab)), none_second a b ab, own_same k (kind_of s.1.result) at (none_second (a ++ b) c h))

pub new_found : (k : Kind) (x : tree.Name) (at : tree.Span) (o : Option (ℕ × Interface)) → new_findings k x at o ≡ [] → (i : ℕ × Interface) × (o ≡ Some i) × (k ≡ MailboxOf i.0)
new_found k x at None h = cc
new_found k x at (Some i) h = (i, refl, own_same k (MailboxOf i.0) at h)

tag_found : (t : tree.Name) (n : ℕ) (o : Option (ℕ × TagDecl)) → tag_findings t n o ≡ [] → (d : ℕ × TagDecl) × (o ≡ Some d) × (n ≡ length d.1.payloads)
tag_found t n None h = cc
tag_found t n (Some d) h = (d, refl, eqb-true n (length d.1.payloads) (passes (nat_eq n (length d.1.payloads)) WrongArity t.span h))

-- a guard without a body has no clause that it keeps
bodies_kept : (h : Heads) (i n v : ℕ) (cs : tree.Clauses) → free_body n cs ≡ None → receives h i n v cs ≡ [] → has_body cs ≡ false
bodies_kept h i n v tree.no_clauses e r = refl
bodies_kept h i n v (tree.with_clause (tree.FailClause w) cs) e r = bodies_kept h i n v cs e r
bodies_kept h i n v (tree.with_clause (tree.FreeClause w m) cs) e r = cc
bodies_kept h i n v (tree.with_clause (tree.ReceiveClause w t xs y m) cs) e r = cc

-- a name stands among these
abbrev pub Among : List ℕ → List (List ℕ) → Type 0
Among s names = (x : List ℕ) → is_one_of x names ≡ false → bytes_eq s x ≡ false

pub or_false_first : (a b : Bool) → (a || b) ≡ false → a ≡ false
or_false_first true b h = cc
or_false_first false b h = refl

pub or_false_second : (a b : Bool) → (a || b) ≡ false → b ≡ false
or_false_second true b h = cc
or_false_second false b h = h

-- two names of tags are two numbers
different : (tags : List TagDecl) (s t : List ℕ) (c d : ℕ × TagDecl) → first_named (λ t. t.name) s tags ≡ Some c → first_named (λ t. t.name) t tags ≡ Some d → bytes_eq s t ≡ false → nat_eq c.0 d.0 ≡ false
different tags s t c d e g apart =
    (elim (nat_eq c.0 d.0) as (λ b. nat_eq c.0 d.0 ≡ b → b ≡ false) [
      | false ↦ λ q. refl
      | true ↦ λ q.
          let same = eqb-true c.0 d.0 q in
          let first = found_there (λ (t : TagDecl). t.name) s tags c.0 c.1 e in
          let second = found_there (λ (t : TagDecl). t.name) t tags d.0 d.1 g in
          let whole : Some c.1 ≡ Some d.1 = sym first ∙ ap (slice_get tags) same ∙ second in
          let decl : c.1 ≡ d.1 = cc in
          let one : c.1.name ≡ s = (bytes_eq-Decides c.1.name s).0 (found_named (λ (t : TagDecl). t.name) s tags c.0 c.1 e) in
          let two : d.1.name ≡ t = (bytes_eq-Decides d.1.name t).0 (found_named (λ (t : TagDecl). t.name) t tags d.0 d.1 g) in
          absurd (clash ((bytes_eq-Decides s t).1 (sym one ∙ ap (λ (t : TagDecl). t.name) decl ∙ two)) apart)
    ]) refl

-- what bodies look up is the program's
pub record HeadsFit (p : Program) (h : Heads) : Type 0 where
  pub interfaces : p.interfaces ≡ h.interfaces
  pub functions : (g : ℕ) (s : Signature) → slice_get h.signatures g ≡ Some s → (e : Function) × (function_at p g ≡ Some e) × (e.params ≡ s.params) × (e.result ≡ s.result)
  pub results : (g : ℕ) (s : Signature) → slice_get h.signatures g ≡ Some s → KindIsThere p (kind_of s.result)
  pub payloads : (i m : ℕ) (d : TagDecl) → slice_get (tags_at h i) m ≡ Some d → AllByRecursion (KindIsThere p) (map kind_of d.payloads)

-- the clauses of a guard, whose nodes are from n on and whose variables from v on
record ClausesFit (p : Program) (h : Heads) (vars : List Kind) (f i : ℕ) (scope : Scope) (n v : ℕ) (k : Kind) (earlier : Earlier) (cs : tree.Clauses) : Type 0 where
  ps : List Part
  bs : List ℕ
  rows : Parts p vars f n v (v + clauses_binders_in cs) ps bs (clauses_nodes_of h f i scope n v k cs)
  its_parts : (m : ℕ) → count_among m (option_list (free_body n cs) ++ clause_bodies (receives h i n v cs)) ≡ count_among m (starts ps)
  its_binders : (x : ℕ) → count_among x (flat_map clause_binders (receives h i n v cs)) ≡ count_among x bs
  scoped : (free : ℕ → Bool) (x : ℕ) → AllByRecursion (λ c. free c.start ≡ true → is_among x c.scope ≡ true) ps → (list_any free (option_list (free_body n cs)) || list_any (clause_uses free x) (receives h i n v cs)) ≡ true → is_among x (numbers scope) ≡ true
  free_kind : AllByRecursion (λ c. HasKind p c.start c.kind) ps → (m : ℕ) → free_body n cs ≡ Some m → HasKind p m k
  kinds : AllByRecursion (λ c. HasKind p c.start c.kind) ps → AllByRecursion (ClauseKinds p vars i k) (receives h i n v cs)
  distinct : IsDistinct nat_eq (map (λ r. r.tag) (receives h i n v cs))
  apart : (s : List ℕ) (d : ℕ × TagDecl) → Among s earlier.tags → tag_named h i s ≡ Some d → AllByRecursion (λ m. nat_eq d.0 m ≡ false) (map (λ r. r.tag) (receives h i n v cs))
  free_once : earlier.free ≡ true → free_body n cs ≡ None
  kind_there : has_body cs ≡ true → KindIsThere p k

module _ (p : Program) (h : Heads) (heads : HeadsFit p h) (vars : List Kind) (f : ℕ) where
  -- ---- blocks of few parts

  abbrev part : ℕ → List ℕ → Kind → Part
  part n s k = record { start = n; scope = s; kind = k }

  leaf : (s : List ℕ) (k : Kind) (n v : ℕ) (core : Core) → TermFits p vars s k core [] [] → Block p vars f s k n v (v + 0) (node f k core ∷ [])
  leaf s k n v core fits =
      let same : v ≡ v + 0 = omega arith in
      subst (λ w. Block p vars f s k n v w (node f k core ∷ [])) same (block p vars f s k n v v core [] [] [] fits (no_parts p vars f (suc n) v))

  single : (s : List ℕ) (k : Kind) (n v w : ℕ) (xs : List Node) → Block p vars f s k n v w xs → Parts p vars f n v w (record { start = n; scope = s; kind = k } ∷ []) [] xs
  single s k n v w xs b =
      subst (Parts p vars f n v w (record { start = n; scope = s; kind = k } ∷ []) []) (right_nil xs)
      (one_part p vars f s k n (n + length xs) v v w w [] [] xs [] [] (omega arith) (λ y. counts_none y v) refl b (no_parts p vars f (n + length xs) w))

  two_parts : (s t : List ℕ) (j k : Kind) (n next v u x w : ℕ) (own : List ℕ) (xs ys : List Node) → v ≤ u → ((y : ℕ) → Counts (count_among y own) y v u) → n + length xs ≡ next → Block p vars f s j n u x xs → Block p vars f t k next x w ys
      → Parts p vars f n v w (record { start = n; scope = s; kind = j } ∷ record { start = next; scope = t; kind = k } ∷ []) (own ++ []) (xs ++ ys)
  two_parts s t j k n next v u x w own xs ys behind binds same first second =
      one_part p vars f s j n next v u x w own [] xs ys (record { start = next; scope = t; kind = k } ∷ []) behind binds same first (single t k next x w ys second)

  ends : {s : List ℕ} {k : Kind} {n v w u : ℕ} {xs : List Node} → w ≡ u → Block p vars f s k n v w xs → Block p vars f s k n v u xs
  ends {s = s} {k = k} {n = n} {v = v} {xs = xs} same b = subst (λ w. Block p vars f s k n v w xs) same b

  tag_at_p : (i m : ℕ) (d : TagDecl) → slice_get (tags_at h i) m ≡ Some d → tag_at p i m ≡ Some d
  tag_at_p i m d e = ap (λ is. option_and_then (λ (j : Interface). slice_get j.tags m) (slice_get is i)) heads.interfaces ∙ tag_there (slice_get h.interfaces i) m d e

  -- a written pattern of an interface that is there
  is_pattern : (i : ℕ) (e : tree.Pattern) → i < length p.interfaces → pattern_findings (tag_names h i) e ≡ [] → IsPatternOf p i (pattern_of (tag_names h i) e)
  is_pattern i e l none =
      let at = there_is p.interfaces i l in
      let tags : tags_at h i ≡ at.0.tags = ap (λ is. tags_of (slice_get is i)) (sym heads.interfaces) ∙ ap tags_of at.1 in
      record {
        interface = at.0;
        there = at.1;
        tags = pattern_below (tag_names h i) (length at.0.tags) e (length-map (tags_at h i) (λ t. t.name) ∙ ap length tags) none;
        closed = pattern_closed (tag_names h i) e;
      }

  -- ---- names that stand for mailboxes

  record MailboxKnown (scope : Scope) (x : List ℕ) (then : ℕ → List Finding) : Type 0 where
    kind : slice_get vars (number_of scope x) ≡ Some (MailboxOf (guarded scope x))
    inside : is_among (number_of scope x) (numbers scope) ≡ true
    there : guarded scope x < length p.interfaces
    further : then (guarded scope x) ≡ []

  mailbox_known : (at : tree.Span) (x : tree.Name) (scope : Scope) (then : ℕ → List Finding) → ScopeFits vars scope → ScopeIsThere p scope → on_mailbox at x (variable_of scope x.text) then ≡ [] → MailboxKnown scope x.text then
  mailbox_known at x scope then fits there none = found (variable_of scope x.text) refl none
    where
      mailbox : (v : Variable) (k : Kind) → variable_of scope x.text ≡ Some v → v.kind ≡ k → on_kind at k then ≡ [] → MailboxKnown scope x.text then
      mailbox v (Plain b) e q n = cc
      mailbox v (MailboxOf i) e q n =
          let known : known_kind (variable_of scope x.text) ≡ MailboxOf i = ap known_kind e ∙ q in
          let same : guarded scope x.text ≡ i = ap interface_of_kind known in
          let within : KindIsThere p (MailboxOf i) = subst (KindIsThere p) known (variable_is_there p scope x.text there) in
          record {
            kind = ap (λ o. slice_get vars (known_number o)) e ∙ variable_kind vars scope x.text v fits e ∙ ap Some (q ∙ ap MailboxOf (sym same));
            inside = subst (λ o. is_among (known_number o) (numbers scope) ≡ true) (sym e) (variable_in scope x.text v e);
            there = subst (λ j. j < length p.interfaces) (sym same) within;
            further = subst (λ j. then j ≡ []) (sym same) n;
          }

      found : (o : Option Variable) → variable_of scope x.text ≡ o → on_mailbox at x o then ≡ [] → MailboxKnown scope x.text then
      found None e n = cc
      found (Some v) e n = mailbox v v.kind e refl n

  -- a variable of the scope of a clause's body is bound by the clause, or is in scope outside
  inner_or_outer : (x i v : ℕ) (t : tree.Name) (xs : List tree.Name) (y : tree.Name) (scope : Scope) → is_among x (numbers (clause_scope h i scope v t xs y)) ≡ true → not (is_among x (numbers_from v xs ++ (v + length xs) ∷ [])) ≡ true → is_among x (numbers scope) ≡ true
  inner_or_outer x i v t xs y scope inside other =
      let off = not_true (is_among x (numbers_from v xs ++ (v + length xs) ∷ [])) other in
      ⊎_elim
      (λ l. absurd (clash (among_end x (v + length xs) (numbers_from v xs) l) off))
      (λ r. ⊎_elim
      (λ l. absurd (clash (among_front x (numbers_from v xs) ((v + length xs) ∷ []) l) off))
      (λ q. q)
      (bound_or_outer x v xs (payload_kinds (tag_named h i t.text)) scope r))
      (or_cases (nat_eq x (v + length xs)) (is_among x (numbers (bind_names v xs (payload_kinds (tag_named h i t.text)) scope))) inside)

  clause_binds : (y v : ℕ) (xs : List tree.Name) → Counts (count_among y (numbers_from v xs ++ (v + length xs) ∷ [])) y v (suc (v + length xs))
  clause_binds y v xs =
      let both = among_append y (numbers_from v xs) ((v + length xs) ∷ []) in
      counts_both (count_among y (numbers_from v xs)) (count_if (nat_eq y (v + length xs))) (count_among y (numbers_from v xs ++ (v + length xs) ∷ [])) y v (v + length xs) (suc (v + length xs)) (omega arith) (omega arith)
      (numbers_count y v xs) (counts_one y (v + length xs)) (omega (arith, both))

  one_binds : (y v : ℕ) → Counts (count_among y (v ∷ [])) y v (suc v)
  one_binds y v = counts_as (count_among y (v ∷ [])) (count_if (nat_eq y v)) y v (suc v) (suc v) (omega arith) refl (counts_one y v)

  -- in the body of a let, what isn't the let's variable is in scope outside
  let_outer : (x v : ℕ) (s : List ℕ) → is_among x (v ∷ s) ≡ true → not (is_among x (v ∷ [])) ≡ true → is_among x s ≡ true
  let_outer x v s inside other =
      let off = not_true (nat_eq x v || false) other in
      ⊎_elim (λ l. absurd (clash (or_left (nat_eq x v) false l) off)) (λ r. r) (or_cases (nat_eq x v) (is_among x s) inside)

  mutual
    pub term_block : (t : tree.Term) (scope : Scope) (n v : ℕ) (k : Kind) → ScopeFits vars scope → ScopeIsThere p scope → HasAt vars v (vars_of h scope v t) → term_findings h scope v k t ≡ [] → Block p vars f (numbers scope) k n v (v + binders_in t) (nodes_of h f scope n v k t) × KindIsThere p k
    term_block (tree.LetTerm None m b at) scope n v k fits there has none =
        let next = suc n + nodes_in m in
        let u = v + binders_in m in
        let xs = nodes_of h f scope (suc n) v unit_kind m in
        let ys = nodes_of h f scope next u k b in
        let first = vars_of h scope v m in
        let second = vars_of h scope u b in
        let long = vars_length h m scope v in
        let one = term_block m scope (suc n) v unit_kind fits there (has_first vars v first second has) (none_first (term_findings h scope v unit_kind m) (term_findings h scope u k b) none) in
        let two = term_block b scope next u k fits there (has_second vars v u first second (omega (arith, long)) has) (none_second (term_findings h scope v unit_kind m) (term_findings h scope u k b) none) in
        let size = nodes_length h f m scope (suc n) v unit_kind in
        let fit : TermFits p vars (numbers scope) k (Let None (suc n) next) (part (suc n) (numbers scope) unit_kind ∷ part next (numbers scope) k ∷ []) [] = record {
          its_parts = λ m. refl;
          its_binders = λ x. refl;
          scoped = λ free x all u. ⊎_elim (λ l. all.0 l) (λ r. all.1.0 (both_first (free next) true r)) (or_cases (free (suc n)) (free next && true) u);
          kinds = λ all. (all.0, all.1.0);
        } in (
          block p vars f (numbers scope) k n v (v + (binders_in m + binders_in b)) (Let None (suc n) next) (part (suc n) (numbers scope) unit_kind ∷ part next (numbers scope) k ∷ []) [] (xs ++ ys) fit
              (two_parts (numbers scope) (numbers scope) unit_kind k (suc n) next v v u (v + (binders_in m + binders_in b)) [] xs ys (omega arith) (λ y. counts_none y v) (omega (arith, size)) one.0 (ends (omega arith) two.0)),
          two.1,
        )
    term_block (tree.LetTerm (Some x) m b at) scope n v k fits there has none =
        let j = kind_of_term h scope (suc v) m in
        let inner = variable x.text v j ∷ scope in
        let next = suc n + nodes_in m in
        let u = suc v + binders_in m in
        let xs = nodes_of h f scope (suc n) (suc v) j m in
        let ys = nodes_of h f inner next u k b in
        let first = vars_of h scope (suc v) m in
        let second = vars_of h inner u b in
        let long = vars_length h m scope (suc v) in
        let later = has_next vars v j (first ++ second) has in
        let here = has_here vars v j (first ++ second) has in
        let one = term_block m scope (suc n) (suc v) j fits there (has_first vars (suc v) first second later) (none_first (term_findings h scope (suc v) j m) (term_findings h inner u k b) none) in
        let two = term_block b inner next u k (here, fits) (one.1, there) (has_second vars (suc v) u first second (omega (arith, long)) later) (none_second (term_findings h scope (suc v) j m) (term_findings h inner u k b) none) in
        let size = nodes_length h f m scope (suc n) (suc v) j in
        let fit : TermFits p vars (numbers scope) k (Let (Some v) (suc n) next) (part (suc n) (numbers scope) j ∷ part next (v ∷ numbers scope) k ∷ []) (v ∷ []) = record {
          its_parts = λ m. refl;
          its_binders = λ x. refl;
          scoped = λ free x all u. ⊎_elim (λ l. all.0 l) (λ r. let_outer x v (numbers scope) (all.1.0 (both_first (free next) (not (is_among x (v ∷ []))) r)) (both_second (free next) (not (is_among x (v ∷ []))) r)) (or_cases (free (suc n)) (free next && not (is_among x (v ∷ []))) u);
          kinds = λ all. (j, here, all.0, all.1.0);
        } in (
          block p vars f (numbers scope) k n v (v + suc (binders_in m + binders_in b)) (Let (Some v) (suc n) next) (part (suc n) (numbers scope) j ∷ part next (v ∷ numbers scope) k ∷ []) (v ∷ []) (xs ++ ys) fit
              (two_parts (numbers scope) (v ∷ numbers scope) j k (suc n) next v (suc v) u (v + suc (binders_in m + binders_in b)) (v ∷ []) xs ys (omega arith) (λ y. one_binds y v) (omega (arith, size)) one.0 (ends (omega arith) two.0)),
          two.1,
        )
    term_block (tree.IfTerm e m b at) scope n v k fits there has none =
        let next = suc n + nodes_in m in
        let u = v + binders_in m in
        let xs = nodes_of h f scope (suc n) v k m in
        let ys = nodes_of h f scope next u k b in
        let first = vars_of h scope v m in
        let second = vars_of h scope u b in
        let test = expr_findings scope (Plain BaseBool) e in
        let both = none_first (test ++ term_findings h scope v k m) (term_findings h scope u k b) none in
        let no_test = none_first test (term_findings h scope v k m) both in
        let long = vars_length h m scope v in
        let one = term_block m scope (suc n) v k fits there (has_first vars v first second has) (none_second test (term_findings h scope v k m) both) in
        let two = term_block b scope next u k fits there (has_second vars v u first second (omega (arith, long)) has) (none_second (test ++ term_findings h scope v k m) (term_findings h scope u k b) none) in
        let size = nodes_length h f m scope (suc n) v k in
        let fit : TermFits p vars (numbers scope) k (If (expr_of scope e) (suc n) next) (part (suc n) (numbers scope) k ∷ part next (numbers scope) k ∷ []) [] = record {
          its_parts = λ m. refl;
          its_binders = λ x. refl;
          scoped = λ free x all u.
              ⊎_elim
              (λ l. expr_scoped scope e x (none_first (parts_findings scope e) (own_kind (Plain BaseBool) (kind_of_expr scope e) (expr_at e)) no_test) l)
              (λ r. ⊎_elim (λ l. all.0 l) (λ q. all.1.0 q) (or_cases (free (suc n)) (free next) r))
              (or_cases (occurs x (expr_of scope e)) (free (suc n) || free next) u);
          kinds = λ all. (kind_needed vars scope fits (Plain BaseBool) e no_test, all.0, all.1.0);
        } in (
          block p vars f (numbers scope) k n v (v + (binders_in m + binders_in b)) (If (expr_of scope e) (suc n) next) (part (suc n) (numbers scope) k ∷ part next (numbers scope) k ∷ []) [] (xs ++ ys) fit
              (two_parts (numbers scope) (numbers scope) k k (suc n) next v v u (v + (binders_in m + binders_in b)) [] xs ys (omega arith) (λ y. counts_none y v) (omega (arith, size)) one.0 (ends (omega arith) two.0)),
          two.1,
        )
    term_block (tree.PrintTerm e at) scope n v k fits there has none =
        let names = parts_findings scope e in
        let shown = unless (is_shown (kind_of_expr scope e)) WrongKind (expr_at e) in
        let value = none_first (names ++ shown) (own_kind k unit_kind at) none in
        let same = own_same k unit_kind at (none_second (names ++ shown) (own_kind k unit_kind at) none) in
        let no_name = none_first names shown value in (
          leaf (numbers scope) k n v (Print (expr_of scope e)) (record {
            its_parts = λ m. refl;
            its_binders = λ x. refl;
            scoped = λ free x all u. expr_scoped scope e x no_name u;
            kinds = λ all. (same, (kind_of_expr scope e, kind_numbered vars scope fits e no_name, shown_printable (kind_of_expr scope e) (passes (is_shown (kind_of_expr scope e)) WrongKind (expr_at e) (none_second names shown value))));
          }),
          subst (KindIsThere p) (sym same) tt,
        )
    term_block (tree.NewTerm x at) scope n v k fits there has none =
        let i = new_found k x at (interface_called h x.text) none in
        let number : number_found (interface_called h x.text) ≡ i.0.0 = ap number_found i.1 in
        let within = slice_get_within h.interfaces i.0.0 i.0.1 (found_there (λ (i : Interface). i.name) x.text h.interfaces i.0.0 i.0.1 i.1) in
        let long : length p.interfaces ≡ length h.interfaces = ap length heads.interfaces in
        let inside : i.0.0 < length p.interfaces = omega (arith, within, long) in (
          leaf (numbers scope) k n v (New (number_found (interface_called h x.text))) (record {
            its_parts = λ m. refl;
            its_binders = λ x. refl;
            scoped = λ free x all u. cc;
            kinds = λ all. (i.2 ∙ ap MailboxOf (sym number), subst (λ j. j < length p.interfaces) (sym number) inside);
          }),
          subst (KindIsThere p) (sym i.2) inside,
        )
    term_block (tree.SpawnTerm m at) scope n v k fits there has none =
        let same = own_same k unit_kind at (none_second (term_findings h scope v unit_kind m) (own_kind k unit_kind at) none) in
        let one = term_block m scope (suc n) v unit_kind fits there has (none_first (term_findings h scope v unit_kind m) (own_kind k unit_kind at) none) in (
          block p vars f (numbers scope) k n v (v + binders_in m) (Spawn (suc n)) (part (suc n) (numbers scope) unit_kind ∷ []) [] (nodes_of h f scope (suc n) v unit_kind m)
              (record {
                its_parts = λ m. refl;
                its_binders = λ x. refl;
                scoped = λ free x all u. all.0 u;
                kinds = λ all. (same, all.0);
              })
              (single (numbers scope) unit_kind (suc n) v (v + binders_in m) (nodes_of h f scope (suc n) v unit_kind m) one.0),
          subst (KindIsThere p) (sym same) tt,
        )
    term_block (tree.FreeTerm x at) scope n v k fits there has none =
        let target = on_mailbox at x (variable_of scope x.text) (λ i. []) in
        let same = own_same k unit_kind at (none_second target (own_kind k unit_kind at) none) in
        let known = mailbox_known at x scope (λ i. []) fits there (none_first target (own_kind k unit_kind at) none) in
        let i = guarded scope x.text in
        let at_i = there_is p.interfaces i known.there in
        let value : Block p vars f (numbers scope) k (suc n) v (v + 0) (node f k (Val (Literal UnitConst)) ∷ []) = leaf (numbers scope) k (suc n) v (Val (Literal UnitConst)) (record {
          its_parts = λ m. refl;
          its_binders = λ x. refl;
          scoped = λ free x all u. cc;
          kinds = λ all. ap Some (sym same);
        }) in (
          block p vars f (numbers scope) k n v (v + 0) (Guard (number_of scope x.text) One (Some (suc n)) []) (part (suc n) (numbers scope) k ∷ []) [] (node f k (Val (Literal UnitConst)) ∷ [])
              (record {
                its_parts = λ m. refl;
                its_binders = λ x. refl;
                scoped = λ free y all u.
                    ⊎_elim
                    (λ l. subst (λ z. is_among z (numbers scope) ≡ true) (sym (eqb-true y (number_of scope x.text) l)) known.inside)
                    (λ r. ⊎_elim (λ l. ⊎_elim (λ q. all.0 q) (λ q. cc) (or_cases (free (suc n)) false l)) (λ q. cc) (or_cases (free (suc n) || false) false r))
                    (or_cases (nat_eq y (number_of scope x.text)) ((free (suc n) || false) || false) u);
                kinds = λ all. (
                  i,
                  known.kind,
                  record { interface = at_i.0; there = at_i.1; tags = refl; closed = refl },
                  λ m e. (let here : suc n ≡ m = cc in subst (λ j. HasKind p j k) here all.0),
                  tt,
                  no_distinct nat_eq,
                  λ e. cc,
                );
              })
              (single (numbers scope) k (suc n) v (v + 0) (node f k (Val (Literal UnitConst)) ∷ []) value),
          subst (KindIsThere p) (sym same) tt,
        )
    term_block (tree.GuardTerm x q cs at) scope n v k fits there has none =
        let i = guarded scope x.text in
        let then : ℕ → List Finding = λ i. pattern_findings (tag_names h i) q ++ clauses_findings h i scope v k no_earlier cs in
        let body = none_second (on_mailbox at x (variable_of scope x.text) then) (bodiless (has_body cs) k at) none in
        let known = mailbox_known at x scope then fits there (none_first (on_mailbox at x (variable_of scope x.text) then) (bodiless (has_body cs) k at) none) in
        let no_tag = none_first (pattern_findings (tag_names h i) q) (clauses_findings h i scope v k no_earlier cs) known.further in
        let rest = clauses_block cs i scope (suc n) v k no_earlier fits there known.there has (none_second (pattern_findings (tag_names h i) q) (clauses_findings h i scope v k no_earlier cs) known.further) in (
          block p vars f (numbers scope) k n v (v + clauses_binders_in cs) (Guard (number_of scope x.text) (pattern_of (tag_names h i) q) (free_body (suc n) cs) (receives h i (suc n) v cs)) rest.ps rest.bs (clauses_nodes_of h f i scope (suc n) v k cs)
              (record {
                its_parts = rest.its_parts;
                its_binders = rest.its_binders;
                scoped = λ free y all u.
                    ⊎_elim
                    (λ l. subst (λ z. is_among z (numbers scope) ≡ true) (sym (eqb-true y (number_of scope x.text) l)) known.inside)
                    (λ r. rest.scoped free y all r)
                    (or_cases (nat_eq y (number_of scope x.text)) (list_any free (option_list (free_body (suc n) cs)) || list_any (clause_uses free y) (receives h i (suc n) v cs)) u);
                kinds = λ all. (
                  i,
                  known.kind,
                  is_pattern i q known.there no_tag,
                  rest.free_kind all,
                  rest.kinds all,
                  rest.distinct,
                  λ e r. own_same k unit_kind at (subst (λ b. bodiless b k at ≡ []) (bodies_kept h i (suc n) v cs e r) body),
                );
              })
              rest.rows,
          (elim (has_body cs) as (λ b. has_body cs ≡ b → bodiless b k at ≡ [] → KindIsThere p k) [
            | true ↦ λ e m. rest.kind_there e
            | false ↦ λ e m. subst (KindIsThere p) (sym (own_same k unit_kind at m)) tt
          ]) refl body,
        )
    term_block (tree.SendTerm x t es at) scope n v k fits there has none =
        let i = guarded scope x.text in
        let then : ℕ → List Finding = λ i. tag_findings t (length es) (tag_named h i t.text) ++ args_findings scope (payload_kinds (tag_named h i t.text)) es in
        let target = on_mailbox at x (variable_of scope x.text) then in
        let same = own_same k unit_kind at (none_second target (own_kind k unit_kind at) none) in
        let known = mailbox_known at x scope then fits there (none_first target (own_kind k unit_kind at) none) in
        let tag = tag_named h i t.text in
        let d = tag_found t (length es) tag (none_first (tag_findings t (length es) tag) (args_findings scope (payload_kinds tag) es) known.further) in
        let args = none_second (tag_findings t (length es) tag) (args_findings scope (payload_kinds tag) es) known.further in
        let declared = tag_at_p i d.0.0 d.0.1 (found_there (λ (t : TagDecl). t.name) t.text (tags_at h i) d.0.0 d.0.1 d.1) in
        let args_there : args_findings scope (map kind_of d.0.1.payloads) es ≡ [] = subst (λ o. args_findings scope (payload_kinds o) es ≡ []) d.1 args in (
          leaf (numbers scope) k n v (Send (number_of scope x.text) (number_found tag) (map (expr_of scope) es)) (record {
            its_parts = λ m. refl;
            its_binders = λ x. refl;
            scoped = λ free y all u.
                ⊎_elim
                (λ l. subst (λ z. is_among z (numbers scope) ≡ true) (sym (eqb-true y (number_of scope x.text) l)) known.inside)
                (λ r. args_scoped scope (payload_kinds tag) es y args r)
                (or_cases (nat_eq y (number_of scope x.text)) (list_any (occurs y) (map (expr_of scope) es)) u);
            kinds = λ all. (
              same,
              (
                i,
                d.0.1,
                known.kind,
                subst (λ m. tag_at p i m ≡ Some d.0.1) (sym (ap number_found d.1)) declared,
                args_numbered vars scope fits (map kind_of d.0.1.payloads) es args_there (d.2 ∙ sym (length-map d.0.1.payloads kind_of)),
              ),
            );
          }),
          subst (KindIsThere p) (sym same) tt,
        )
    term_block (tree.CallTerm g es at) scope n v k fits there has none =
        let c = call_found scope k g es at (function_named h g.text) none in
        let at_g = found_there (λ (s : Signature). s.name) g.text h.signatures c.0.0 c.0.1 c.1 in
        let e = heads.functions c.0.0 c.0.1 at_g in
        let number : number_found (function_named h g.text) ≡ c.0.0 = ap number_found c.1 in
        let args = args_numbered vars scope fits (map kind_of c.0.1.params) es c.3 (c.2 ∙ sym (length-map c.0.1.params kind_of)) in (
          leaf (numbers scope) k n v (Call (number_found (function_named h g.text)) (map (expr_of scope) es)) (record {
            its_parts = λ m. refl;
            its_binders = λ x. refl;
            scoped = λ free y all u. args_scoped scope (map kind_of c.0.1.params) es y c.3 u;
            kinds = λ all. (
              e.0,
              ap (function_at p) number ∙ e.1,
              subst (λ ss. HaveKinds vars (map (expr_of scope) es) (map kind_of ss)) (sym e.2) args,
              ap kind_of e.3 ∙ sym c.4,
            );
          }),
          subst (KindIsThere p) (sym c.4) (heads.results c.0.0 c.0.1 at_g),
        )
    term_block (tree.ValueTerm e at) scope n v k fits there has none =
        let no_name = none_first (parts_findings scope e) (own_kind k (kind_of_expr scope e) at) none in
        let same = own_same k (kind_of_expr scope e) at (none_second (parts_findings scope e) (own_kind k (kind_of_expr scope e) at) none) in (
          leaf (numbers scope) k n v (Val (expr_of scope e)) (record {
            its_parts = λ m. refl;
            its_binders = λ x. refl;
            scoped = λ free y all u. expr_scoped scope e y no_name u;
            kinds = λ all. kind_numbered vars scope fits e no_name ∙ ap Some (sym same);
          }),
          subst (KindIsThere p) (sym same) (expr_is_there p scope e there),
        )

    clauses_block : (cs : tree.Clauses) (i : ℕ) (scope : Scope) (n v : ℕ) (k : Kind) (earlier : Earlier) → ScopeFits vars scope → ScopeIsThere p scope → i < length p.interfaces → HasAt vars v (clauses_vars_of h i scope v cs) → clauses_findings h i scope v k earlier cs ≡ [] → ClausesFit p h vars f i scope n v k earlier cs
    clauses_block tree.no_clauses i scope n v k earlier fits there within has none = record {
      ps = [];
      bs = [];
      rows = (let same : v ≡ v + 0 = omega arith in subst (λ w. Parts p vars f n v w [] [] []) same (no_parts p vars f n v));
      its_parts = λ m. refl;
      its_binders = λ x. refl;
      scoped = λ free x all u. cc;
      free_kind = λ all m e. cc;
      kinds = λ all. tt;
      distinct = no_distinct nat_eq;
      apart = λ s d a e. tt;
      free_once = λ e. refl;
      kind_there = λ e. cc;
    }
    clauses_block (tree.with_clause (tree.FailClause w) cs) i scope n v k earlier fits there within has none =
        let rest = clauses_block cs i scope n v k (record earlier { fail = true }) fits there within has (none_second (unless (not earlier.fail) Twice w) (clauses_findings h i scope v k (record earlier { fail = true }) cs) none) in
        record {
          ps = rest.ps;
          bs = rest.bs;
          rows = rest.rows;
          its_parts = rest.its_parts;
          its_binders = rest.its_binders;
          scoped = rest.scoped;
          free_kind = rest.free_kind;
          kinds = rest.kinds;
          distinct = rest.distinct;
          apart = rest.apart;
          free_once = rest.free_once;
          kind_there = rest.kind_there;
        }
    clauses_block (tree.with_clause (tree.FreeClause w m) cs) i scope n v k earlier fits there within has none =
        let next = n + nodes_in m in
        let u = v + binders_in m in
        let later = record earlier { free = true } in
        let xs = nodes_of h f scope n v k m in
        let ys = clauses_nodes_of h f i scope next u k cs in
        let first = vars_of h scope v m in
        let second = clauses_vars_of h i scope u cs in
        let twice = unless (not earlier.free) Twice w in
        let front = none_first (twice ++ term_findings h scope v k m) (clauses_findings h i scope u k later cs) none in
        let once = not_true earlier.free (passes (not earlier.free) Twice w (none_first twice (term_findings h scope v k m) front)) in
        let long = vars_length h m scope v in
        let size = nodes_length h f m scope n v k in
        let one = term_block m scope n v k fits there (has_first vars v first second has) (none_second twice (term_findings h scope v k m) front) in
        let rest = clauses_block cs i scope next u k later fits there within (has_second vars v u first second (omega (arith, long)) has) (none_second (twice ++ term_findings h scope v k m) (clauses_findings h i scope u k later cs) none) in
        let no_other : free_body next cs ≡ None = rest.free_once refl in
        let same : u + clauses_binders_in cs ≡ v + (binders_in m + clauses_binders_in cs) = omega arith in
        record {
          ps = part n (numbers scope) k ∷ rest.ps;
          bs = rest.bs;
          rows = subst (λ w. Parts p vars f n v w (part n (numbers scope) k ∷ rest.ps) rest.bs (xs ++ ys)) same
              (one_part p vars f (numbers scope) k n next v v u (u + clauses_binders_in cs) [] rest.bs xs ys rest.ps (omega arith) (λ y. counts_none y v) (omega (arith, size)) one.0 rest.rows);
          its_parts = λ j. ap (λ c. count_if (nat_eq j n) + c) (ap (λ o. count_among j (option_list o ++ clause_bodies (receives h i next u cs))) (sym no_other) ∙ rest.its_parts j);
          its_binders = rest.its_binders;
          scoped = λ free x all q.
              ⊎_elim
              (λ l. ⊎_elim (λ r. all.0 r) (λ r. cc) (or_cases (free n) false l))
              (λ r. rest.scoped free x all.1 (ap (λ o. list_any free (option_list o) || list_any (clause_uses free x) (receives h i next u cs)) no_other ∙ r))
              (or_cases (free n || false) (list_any (clause_uses free x) (receives h i next u cs)) q);
          free_kind = λ all j e. (let here : n ≡ j = cc in subst (λ j. HasKind p j k) here all.0);
          kinds = λ all. rest.kinds all.1;
          distinct = rest.distinct;
          apart = rest.apart;
          free_once = λ e. absurd (clash e once);
          kind_there = λ e. one.1;
        }
    clauses_block (tree.with_clause (tree.ReceiveClause w t xs y m) cs) i scope n v k earlier fits there within has none =
        let tag = tag_named h i t.text in
        let ks = payload_kinds tag in
        let last = v + length xs in
        let start = suc (v + length xs) in
        let inner = clause_scope h i scope v t xs y in
        let next = n + nodes_in m in
        let u = start + binders_in m in
        let later = record earlier { tags = t.text ∷ earlier.tags } in
        let own = numbers_from v xs ++ last ∷ [] in
        let front = nodes_of h f inner n start k m in
        let back = clauses_nodes_of h f i scope next u k cs in
        let others = receives h i next u cs in
        let f1 = unless (not (is_one_of t.text earlier.tags)) Twice w in
        let f2 = tag_findings t (length xs) tag in
        let f3 = names_findings [] (xs ++ y ∷ []) in
        let f4 = term_findings h inner start k m in
        let f5 = clauses_findings h i scope u k later cs in
        let n1 = none_first (f1 ++ f2 ++ f3 ++ f4) f5 none in
        let n2 = none_first (f1 ++ f2 ++ f3) f4 n1 in
        let n3 = none_first (f1 ++ f2) f3 n2 in
        let new = not_true (is_one_of t.text earlier.tags) (passes (not (is_one_of t.text earlier.tags)) Twice w (none_first f1 f2 n3)) in
        let d = tag_found t (length xs) tag (none_second f1 f2 n3) in
        let at_d = found_there (λ (t : TagDecl). t.name) t.text (tags_at h i) d.0.0 d.0.1 d.1 in
        let number : number_found tag ≡ d.0.0 = ap number_found d.1 in
        let kinds_d : ks ≡ map kind_of d.0.1.payloads = ap payload_kinds d.1 in
        let mine = vars_of h inner start m in
        let theirs = clauses_vars_of h i scope u cs in
        let names = kinds_for_length xs ks in
        let size_vars = vars_length h m inner start in
        let both = length-append (kinds_for xs ks) (MailboxOf i ∷ mine) in
        let has_own = has_first vars v (kinds_for xs ks ++ MailboxOf i ∷ mine) theirs has in
        let has_names = has_first vars v (kinds_for xs ks) (MailboxOf i ∷ mine) has_own in
        let has_last = has_second vars v last (kinds_for xs ks) (MailboxOf i ∷ mine) (omega (arith, names)) has_own in
        let here = has_here vars last (MailboxOf i) mine has_last in
        let each : AllByRecursion (KindIsThere p) ks = subst (AllByRecursion (KindIsThere p)) (sym kinds_d) (heads.payloads i d.0.0 d.0.1 at_d) in
        let one = term_block m inner n start k (here, bind_fits vars v xs ks scope has_names fits) (within, bind_is_there p v xs ks scope each there) (has_next vars last (MailboxOf i) mine has_last) (none_second (f1 ++ f2 ++ f3) f4 n1) in
        let rest = clauses_block cs i scope next u k later fits there within (has_second vars v u (kinds_for xs ks ++ MailboxOf i ∷ mine) theirs (omega (arith, names, size_vars, both)) has) (none_second (f1 ++ f2 ++ f3 ++ f4) f5 none) in
        let size = nodes_length h f m inner n start k in
        let same : u + clauses_binders_in cs ≡ v + (suc (length xs) + binders_in m + clauses_binders_in cs) = omega arith in
        record {
          ps = part n (numbers inner) k ∷ rest.ps;
          bs = own ++ rest.bs;
          rows = subst (λ w. Parts p vars f n v w (part n (numbers inner) k ∷ rest.ps) (own ++ rest.bs) (front ++ back)) same
              (one_part p vars f (numbers inner) k n next v start u (u + clauses_binders_in cs) own rest.bs front back rest.ps (omega arith) (λ z. clause_binds z v xs) (omega (arith, size)) one.0 rest.rows);
          its_parts = λ j.
              let l = among_append j (option_list (free_body next cs)) (n ∷ clause_bodies others) in
              let r = among_append j (option_list (free_body next cs)) (clause_bodies others) in
              let q = rest.its_parts j in
              omega (arith, l, r, q);
          its_binders = λ z.
              let l = among_append z own (flat_map clause_binders others) in
              let r = among_append z own rest.bs in
              let q = rest.its_binders z in
              omega (arith, l, r, q);
          scoped = λ free x all q.
              ⊎_elim
              (λ l. rest.scoped free x all.1 (or_left (list_any free (option_list (free_body next cs))) (list_any (clause_uses free x) others) l))
              (λ r. ⊎_elim
              (λ l. inner_or_outer x i v t xs y scope (all.0 (both_first (free n) (not (is_among x own)) l)) (both_second (free n) (not (is_among x own)) l))
              (λ q. rest.scoped free x all.1 (or_right (list_any free (option_list (free_body next cs))) (list_any (clause_uses free x) others) q))
              (or_cases (free n && not (is_among x own)) (list_any (clause_uses free x) others) r))
              (or_cases (list_any free (option_list (free_body next cs))) ((free n && not (is_among x own)) || list_any (clause_uses free x) others) q);
          free_kind = λ all j e. rest.free_kind all.1 j e;
          kinds = λ all. (
            record {
              decl = d.0.1;
              declared = subst (λ j. tag_at p i j ≡ Some d.0.1) (sym number) (tag_at_p i d.0.0 d.0.1 at_d);
              payloads = payloads_have_kinds vars v xs (map kind_of d.0.1.payloads) (d.2 ∙ sym (length-map d.0.1.payloads kind_of)) (subst (λ ks. HasAt vars v (kinds_for xs ks)) kinds_d has_names);
              from = here;
              body = all.0;
            },
            rest.kinds all.1,
          );
          distinct = IsDistinct-cons nat_eq (number_found tag) (map (λ r. r.tag) others)
              (subst (λ j. AllByRecursion (λ c. nat_eq j c ≡ false) (map (λ r. r.tag) others)) (sym number) (rest.apart t.text d.0 (λ x e. or_false_first (bytes_eq t.text x) (is_one_of x earlier.tags) e) d.1))
              rest.distinct;
          apart = λ s c a e. (
            subst (λ j. nat_eq c.0 j ≡ false) (sym number) (different (tags_at h i) s t.text c d.0 e d.1 (a t.text new)),
            rest.apart s c (λ x e. a x (or_false_second (bytes_eq t.text x) (is_one_of x earlier.tags) e)) e,
          );
          free_once = λ e. rest.free_once e;
          kind_there = λ e. one.1;
        }
