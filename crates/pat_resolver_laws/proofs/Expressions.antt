-- Names that are found, and the kinds of numbered expressions.
use Rattle.std.proofs.Common.{◌≡◌, ◌<◌, ℕ, zero, suc, Bool, true, false, ◌||◌, nat_eq, List, [], ◌∷◌, ◌++◌, length, Option, Some, None, refl, ap, sym, ◌∙◌, subst, arith, ⊎_elim}
use Rattle.std.specs.Prelude.{option_map, slice_get, map, bytes_eq, is_some, if◌then◌else◌, ◌&&◌, nat_lt}
use Rattle.std.specs.List.{AllByRecursion, list_any}
use Rattle.std.proofs.lemmas.Bool.{or_cases, eqb-true, eq-eqb, lt-ltb}
use Rattle.std.proofs.lemmas.Option.{slice_get_within}
use Rattle.pat_words_spec.specs.Patterns.{is_closed}
use Rattle.pat_semantics_spec.specs.Values.{Base, BaseUnit, BaseBool, BaseInt, BaseText, Kind, Plain, MailboxOf, Op, Add, Sub, Mul, Equal, Less, occurs}
use Rattle.pat_semantics_spec.specs.Programs.{is_among}
use Rattle.pat_semantics_spec.specs.WellFormed.{op_kind, expr_kind, HaveKinds, IsPrintable}
use Rattle.pat_words_spec.specs.Tags.{tags_below}
use Rattle.pat_parser_spec.specs.Trees as tree
use Rattle.pat_resolver_spec.specs.Scopes.{first_named, itself, number_found, Variable, Scope, variable_of, known_kind, op_gives, kind_of_expr, expr_at, base_eq, kind_eq, is_shown}
use Rattle.pat_resolver_spec.specs.Heads.{pattern_of}
use Rattle.pat_resolver_spec.specs.Findings.{WrongKind, ForeignTag, pattern_findings, own_kind, name_findings, right_needs, left_findings, parts_findings, expr_findings, args_findings}
use Rattle.pat_resolver_spec.specs.Numbering.{known_number, number_of, expr_of}
use Rattle.pat_resolver_laws.proofs.Counting.{none_first, none_second, passes}

-- ---- what is found by its name

pub found_there : {A : Type 0} (name : A → List ℕ) (x : List ℕ) (xs : List A) (m : ℕ) (a : A) → first_named name x xs ≡ Some (m, a) → slice_get xs m ≡ Some a
found_there {A} name x [] m a e = cc
found_there {A} name x (b ∷ xs) m a e =
    (elim (bytes_eq (name b) x) as (λ t. (if t then Some (zero, b) else option_map {U = ℕ × A} (λ (f : ℕ × A). (suc f.0, f.1)) (first_named name x xs)) ≡ Some (m, a) → slice_get (b ∷ xs) m ≡ Some a) [
      | true ↦ λ e. let whole : (zero, b) ≡ (m, a) = cc in
          subst (λ (q : ℕ × A). slice_get (b ∷ xs) q.0 ≡ Some q.1) whole refl
      | false ↦ λ e. later (first_named name x xs) (λ n c h. found_there name x xs n c h) e
    ]) e
  where
    later : (o : Option (ℕ × A)) → ((n : ℕ) (c : A) → o ≡ Some (n, c) → slice_get xs n ≡ Some c) → option_map {U = ℕ × A} (λ (f : ℕ × A). (suc f.0, f.1)) o ≡ Some (m, a) → slice_get (b ∷ xs) m ≡ Some a
    later None ih e = cc
    later (Some f) ih e = let whole : (suc f.0, f.1) ≡ (m, a) = cc in
        subst (λ (q : ℕ × A). slice_get (b ∷ xs) q.0 ≡ Some q.1) whole (ih f.0 f.1 refl)

-- it has the name
pub found_named : {A : Type 0} (name : A → List ℕ) (x : List ℕ) (xs : List A) (m : ℕ) (a : A) → first_named name x xs ≡ Some (m, a) → bytes_eq (name a) x ≡ true
found_named {A} name x [] m a e = cc
found_named {A} name x (b ∷ xs) m a e =
    (elim (bytes_eq (name b) x) as (λ t. bytes_eq (name b) x ≡ t → (if t then Some (zero, b) else option_map {U = ℕ × A} (λ (f : ℕ × A). (suc f.0, f.1)) (first_named name x xs)) ≡ Some (m, a) → bytes_eq (name a) x ≡ true) [
      | true ↦ λ t e. let whole : (zero, b) ≡ (m, a) = cc in
          subst (λ (q : ℕ × A). bytes_eq (name q.1) x ≡ true) whole t
      | false ↦ λ t e. later (first_named name x xs) (λ n c h. found_named name x xs n c h) e
    ]) refl e
  where
    later : (o : Option (ℕ × A)) → ((n : ℕ) (c : A) → o ≡ Some (n, c) → bytes_eq (name c) x ≡ true) → option_map {U = ℕ × A} (λ (f : ℕ × A). (suc f.0, f.1)) o ≡ Some (m, a) → bytes_eq (name a) x ≡ true
    later None ih e = cc
    later (Some f) ih e = let whole : (suc f.0, f.1) ≡ (m, a) = cc in
        subst (λ (q : ℕ × A). bytes_eq (name q.1) x ≡ true) whole (ih f.0 f.1 refl)

-- what is there, if a name is found
pub if_some : {A : Type 0} (o : Option A) → is_some o ≡ true → (a : A) × (o ≡ Some a)
if_some None e = cc
if_some (Some a) e = (a, refl)

-- ---- scopes

abbrev pub numbers : Scope → List ℕ
numbers scope = map (λ y. y.number) scope

-- each variable in scope has its kind among these
abbrev pub ScopeFits : List Kind → Scope → Type 0
ScopeFits vars scope = AllByRecursion (λ y. slice_get vars y.number ≡ Some y.kind) scope

pub variable_kind : (vars : List Kind) (scope : Scope) (x : List ℕ) (v : Variable) → ScopeFits vars scope → variable_of scope x ≡ Some v → slice_get vars v.number ≡ Some v.kind
variable_kind vars [] x v fits e = cc
variable_kind vars (y ∷ scope) x v fits e =
    (elim (bytes_eq y.name x) as (λ t. (if t then Some y else variable_of scope x) ≡ Some v → slice_get vars v.number ≡ Some v.kind) [
      | true ↦ λ e. let same : y ≡ v = cc in subst (λ (u : Variable). slice_get vars u.number ≡ Some u.kind) same fits.0
      | false ↦ λ e. variable_kind vars scope x v fits.1 e
    ]) e

pub variable_in : (scope : Scope) (x : List ℕ) (v : Variable) → variable_of scope x ≡ Some v → is_among v.number (numbers scope) ≡ true
variable_in [] x v e = cc
variable_in (y ∷ scope) x v e =
    (elim (bytes_eq y.name x) as (λ t. (if t then Some y else variable_of scope x) ≡ Some v → (nat_eq v.number y.number || is_among v.number (numbers scope)) ≡ true) [
      | true ↦ λ e. let same : y ≡ v = cc in ap (λ t. t || is_among v.number (numbers scope)) (eq-eqb v.number y.number (ap (λ (u : Variable). u.number) (sym same)))
      | false ↦ λ e. or_right (nat_eq v.number y.number) (is_among v.number (numbers scope)) (variable_in scope x v e)
    ]) e
  where
    or_right : (a b : Bool) → b ≡ true → (a || b) ≡ true
    or_right true b h = refl
    or_right false b h = h

pub known : (o : Option Variable) (at : tree.Span) → name_findings o at ≡ [] → (v : Variable) × (o ≡ Some v)
known None at e = cc
known (Some v) at e = (v, refl)

-- ---- kinds

base_same : (a b : Base) → base_eq a b ≡ true → a ≡ b
base_same BaseUnit BaseUnit e = refl
base_same BaseBool BaseBool e = refl
base_same BaseInt BaseInt e = refl
base_same BaseText BaseText e = refl
base_same _ _ e = cc

pub kind_same : (a b : Kind) → kind_eq a b ≡ true → a ≡ b
kind_same (Plain a) (Plain b) e = ap Plain (base_same a b e)
kind_same (MailboxOf i) (MailboxOf j) e = ap MailboxOf (eqb-true i j e)
kind_same (Plain a) (MailboxOf j) e = cc
kind_same (MailboxOf i) (Plain b) e = cc

pub own_same : (needed given : Kind) (at : tree.Span) → own_kind needed given at ≡ [] → needed ≡ given
own_same needed given at e = kind_same needed given (passes (kind_eq needed given) WrongKind at e)

shown_equal : (k : Kind) → is_shown k ≡ true → op_kind Equal (Some k) (Some k) ≡ Some (Plain BaseBool)
shown_equal (Plain BaseUnit) e = cc
shown_equal (Plain BaseBool) e = refl
shown_equal (Plain BaseInt) e = refl
shown_equal (Plain BaseText) e = refl
shown_equal (MailboxOf i) e = cc

pub shown_printable : (k : Kind) → is_shown k ≡ true → IsPrintable k
shown_printable (Plain BaseUnit) e = cc
shown_printable (Plain BaseBool) e = tt
shown_printable (Plain BaseInt) e = tt
shown_printable (Plain BaseText) e = tt
shown_printable (MailboxOf i) e = cc

integers : (op : Op) (j k : Kind) → op_kind op (Some (Plain BaseInt)) (Some (Plain BaseInt)) ≡ Some (Plain (op_gives op)) → Plain BaseInt ≡ j → Plain BaseInt ≡ k → op_kind op (Some j) (Some k) ≡ Some (Plain (op_gives op))
integers op j k rule left right = ap (λ i. op_kind op (Some i) (Some k)) (sym left) ∙ ap (λ i. op_kind op (Some (Plain BaseInt)) (Some i)) (sym right) ∙ rule

op_rule : (op : Op) (j k : Kind) (at to : tree.Span) → left_findings op j at ≡ [] → own_kind (right_needs op j) k to ≡ [] → op_kind op (Some j) (Some k) ≡ Some (Plain (op_gives op))
op_rule Add j k at to l r = integers Add j k refl (own_same (Plain BaseInt) j at l) (own_same (Plain BaseInt) k to r)
op_rule Sub j k at to l r = integers Sub j k refl (own_same (Plain BaseInt) j at l) (own_same (Plain BaseInt) k to r)
op_rule Mul j k at to l r = integers Mul j k refl (own_same (Plain BaseInt) j at l) (own_same (Plain BaseInt) k to r)
op_rule Less j k at to l r = integers Less j k refl (own_same (Plain BaseInt) j at l) (own_same (Plain BaseInt) k to r)
op_rule Equal j k at to l r =
    subst (λ i. op_kind Equal (Some j) (Some i) ≡ Some (Plain BaseBool)) (own_same j k to r) (shown_equal j (passes (is_shown j) WrongKind at l))

-- the four findings of an operator's sides
pub four : {A : Type 0} (a b c d : List A) → (a ++ b) ++ (c ++ d) ≡ [] → (a ≡ []) × (b ≡ []) × (c ≡ []) × (d ≡ [])
four a b c d e =
    let l = none_first (a ++ b) (c ++ d) e in
    let r = none_second (a ++ b) (c ++ d) e in
    (none_first a b l, none_second a b l, none_first c d r, none_second c d r)

module _ (vars : List Kind) (scope : Scope) (fits : ScopeFits vars scope) where
  -- an expression has its kind
  pub kind_numbered : (e : tree.Expr) → parts_findings scope e ≡ [] → expr_kind vars (expr_of scope e) ≡ Some (kind_of_expr scope e)
  kind_numbered (tree.VarExpr x at) h =
      let v = known (variable_of scope x) at h in
      subst (λ o. slice_get vars (known_number o) ≡ Some (known_kind o)) (sym v.1) (variable_kind vars scope x v.0 fits v.1)
  kind_numbered (tree.UnitExpr at) h = refl
  kind_numbered (tree.BoolExpr b at) h = refl
  kind_numbered (tree.IntExpr n at) h = refl
  kind_numbered (tree.StrExpr s at) h = refl
  kind_numbered (tree.OpExpr op a b at) h =
      let q = four (parts_findings scope a) (left_findings op (kind_of_expr scope a) (expr_at a)) (parts_findings scope b) (own_kind (right_needs op (kind_of_expr scope a)) (kind_of_expr scope b) (expr_at b)) h in
      ap (λ o. op_kind op o (expr_kind vars (expr_of scope b))) (kind_numbered a q.0)
      ∙ ap (op_kind op (Some (kind_of_expr scope a))) (kind_numbered b q.2)
      ∙ op_rule op (kind_of_expr scope a) (kind_of_expr scope b) (expr_at a) (expr_at b) q.1 q.3

  pub kind_needed : (k : Kind) (e : tree.Expr) → expr_findings scope k e ≡ [] → expr_kind vars (expr_of scope e) ≡ Some k
  kind_needed k e h =
      kind_numbered e (none_first (parts_findings scope e) (own_kind k (kind_of_expr scope e) (expr_at e)) h)
      ∙ ap Some (sym (own_same k (kind_of_expr scope e) (expr_at e) (none_second (parts_findings scope e) (own_kind k (kind_of_expr scope e) (expr_at e)) h)))

  pub args_numbered : (ks : List Kind) (es : List tree.Expr) → args_findings scope ks es ≡ [] → length es ≡ length ks → HaveKinds vars (map (expr_of scope) es) ks
  args_numbered [] [] h l = tt
  args_numbered [] (e ∷ es) h l = absurd (omega (arith, l))
  args_numbered (k ∷ ks) [] h l = absurd (omega (arith, l))
  args_numbered (k ∷ ks) (e ∷ es) h l =
      (kind_needed k e (none_first (expr_findings scope k e) (args_findings scope ks es) h), args_numbered ks es (none_second (expr_findings scope k e) (args_findings scope ks es) h) (omega (arith, l)))

-- ---- the variables of an expression are in scope

pub expr_scoped : (scope : Scope) (e : tree.Expr) (x : ℕ) → parts_findings scope e ≡ [] → occurs x (expr_of scope e) ≡ true → is_among x (numbers scope) ≡ true
expr_scoped scope (tree.VarExpr y at) x h o =
    let v = known (variable_of scope y) at h in
    let same : x ≡ v.0.number = eqb-true x (number_of scope y) o ∙ ap known_number v.1 in
    subst (λ z. is_among z (numbers scope) ≡ true) (sym same) (variable_in scope y v.0 v.1)
expr_scoped scope (tree.UnitExpr at) x h o = cc
expr_scoped scope (tree.BoolExpr b at) x h o = cc
expr_scoped scope (tree.IntExpr n at) x h o = cc
expr_scoped scope (tree.StrExpr s at) x h o = cc
expr_scoped scope (tree.OpExpr op a b at) x h o =
    let q = four (parts_findings scope a) (left_findings op (kind_of_expr scope a) (expr_at a)) (parts_findings scope b) (own_kind (right_needs op (kind_of_expr scope a)) (kind_of_expr scope b) (expr_at b)) h in
    ⊎_elim (λ l. expr_scoped scope a x q.0 l) (λ r. expr_scoped scope b x q.2 r) (or_cases (occurs x (expr_of scope a)) (occurs x (expr_of scope b)) o)

pub args_scoped : (scope : Scope) (ks : List Kind) (es : List tree.Expr) (x : ℕ) → args_findings scope ks es ≡ [] → list_any (occurs x) (map (expr_of scope) es) ≡ true → is_among x (numbers scope) ≡ true
args_scoped scope ks [] x h o = cc
args_scoped scope [] (e ∷ es) x h o =
    ⊎_elim
    (λ l. expr_scoped scope e x (none_first (parts_findings scope e) (args_findings scope [] es) h) l)
    (λ r. args_scoped scope [] es x (none_second (parts_findings scope e) (args_findings scope [] es) h) r)
    (or_cases (occurs x (expr_of scope e)) (list_any (occurs x) (map (expr_of scope) es)) o)
args_scoped scope (k ∷ ks) (e ∷ es) x h o =
    ⊎_elim
    (λ l. expr_scoped scope e x (none_first (parts_findings scope e) (own_kind k (kind_of_expr scope e) (expr_at e)) (none_first (expr_findings scope k e) (args_findings scope ks es) h)) l)
    (λ r. args_scoped scope ks es x (none_second (expr_findings scope k e) (args_findings scope ks es) h) r)
    (or_cases (occurs x (expr_of scope e)) (list_any (occurs x) (map (expr_of scope) es)) o)

-- ---- patterns

both_true : (a b : Bool) → a ≡ true → b ≡ true → (a && b) ≡ true
both_true true true h k = refl
both_true true false h k = cc
both_true false b h k = cc

pub pattern_closed : (tags : List (List ℕ)) (e : tree.Pattern) → is_closed (pattern_of tags e) ≡ true
pattern_closed tags (tree.ZeroPattern at) = refl
pattern_closed tags (tree.OnePattern at) = refl
pattern_closed tags (tree.TagPattern x) = refl
pattern_closed tags (tree.SumPattern p q) = both_true (is_closed (pattern_of tags p)) (is_closed (pattern_of tags q)) (pattern_closed tags p) (pattern_closed tags q)
pattern_closed tags (tree.ProdPattern p q) = both_true (is_closed (pattern_of tags p)) (is_closed (pattern_of tags q)) (pattern_closed tags p) (pattern_closed tags q)
pattern_closed tags (tree.StarPattern p) = pattern_closed tags p

pub pattern_below : (tags : List (List ℕ)) (n : ℕ) (e : tree.Pattern) → length tags ≡ n → pattern_findings tags e ≡ [] → tags_below n (pattern_of tags e) ≡ true
pattern_below tags n (tree.ZeroPattern at) l h = refl
pattern_below tags n (tree.OnePattern at) l h = refl
pattern_below tags n (tree.TagPattern x) l h =
    let f = if_some (first_named itself x.text tags) (passes (is_some (first_named itself x.text tags)) ForeignTag x.span h) in
    let within = slice_get_within tags f.0.0 f.0.1 (found_there itself x.text tags f.0.0 f.0.1 f.1) in
    let below : f.0.0 < n = omega (arith, within, l) in
    ap (λ o. nat_lt (number_found o) n) f.1 ∙ lt-ltb f.0.0 n below
pattern_below tags n (tree.SumPattern p q) l h =
    both_true (tags_below n (pattern_of tags p)) (tags_below n (pattern_of tags q))
    (pattern_below tags n p l (none_first (pattern_findings tags p) (pattern_findings tags q) h))
    (pattern_below tags n q l (none_second (pattern_findings tags p) (pattern_findings tags q) h))
pattern_below tags n (tree.ProdPattern p q) l h =
    both_true (tags_below n (pattern_of tags p)) (tags_below n (pattern_of tags q))
    (pattern_below tags n p l (none_first (pattern_findings tags p) (pattern_findings tags q) h))
    (pattern_below tags n q l (none_second (pattern_findings tags p) (pattern_findings tags q) h))
pattern_below tags n (tree.StarPattern p) l h = pattern_below tags n p l h
