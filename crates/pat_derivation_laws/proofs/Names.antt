-- Lists of names, and the environments into which values are put.
use Rattle.pat_semantics_laws.proofs.Lists.{clash, ne_turn, among_first, among_second}
use Rattle.std.proofs.Common.{◌≡◌, ℕ, suc, Bool, true, false, not, nat_eq, cond, if◌then◌else◌, List, [], ◌∷◌, filter, Option, Some, None, inl, inr, ⊎_elim, ◌⊎◌, refl, sym, ap, ◌∙◌, subst}
use Rattle.std.specs.List.{AllByRecursion, list_all}
use Rattle.std.proofs.lemmas.Bool.{and_parts, or_cases, or_left, or_right, or_parts, eqb-true, cases_Bool, cond-true, cond-false, cond_both}
use mathlib.Core.Path.{fun_ext}
use Rattle.pat_words_spec.specs.Patterns.{Pat, residual}
use Rattle.pat_semantics_spec.specs.Values.{Expr, VarExpr, Literal, OpExpr}
use Rattle.pat_semantics_spec.specs.Programs.{Receiving, TagDecl, Clause, is_among}
use Rattle.pat_type_system_spec.specs.Types.{Returnable, MailboxType, mailbox_type, PassesTo, SplitsTo, TypeEnv, with_type, without, returnable}
use Rattle.pat_type_system_spec.specs.Typings.{payload_type, with_option, args_need, if_mailbox, mailbox_args, with_payloads, clause_env, without_name}
use Rattle.pat_inclusion_spec.specs.Values.{Scope, pattern_of}
use Rattle.pat_derivation_spec.specs.Derivations.{Line, Derivation, line_at}
use Rattle.pat_derivation_spec.specs.Demands.{Demand}
use Rattle.pat_derivation_spec.specs.Conditions.{then_others, but_not, passes, divides, of_line, to_part}
use Rattle.pat_derivation_laws.proofs.DemandsMet.{put_in, Met}
use Rattle.pat_type_schemes_spec.specs.NodeTypes.{need_of, Needs, type_under}
use Rattle.std.specs.Map.{keys_of}

-- ---- lists of names

kept : (f : ℕ → Bool) (x : ℕ) (ys : List ℕ) → f x ≡ true → is_among x ys ≡ true → is_among x (filter f ys) ≡ true
kept f x [] k h = cc
kept f x (y ∷ ys) k h =
    ⊎_elim
    (λ l. let same : x ≡ y = eqb-true x y l in
    subst (λ b. is_among x (cond b (y ∷ filter f ys) (filter f ys)) ≡ true) (sym k ∙ ap f same)
    (or_left (nat_eq x y) (is_among x (filter f ys)) l))
    (λ r. let later = kept f x ys k r in
    cond_both (f y) (y ∷ filter f ys) (filter f ys) (λ zs. is_among x zs ≡ true) (λ _. or_right (nat_eq x y) (is_among x (filter f ys)) later) (λ _. later))
    (or_cases (nat_eq x y) (is_among x ys) h)

-- what is in neither of the two lists
pub in_neither : (x : ℕ) (xs ys : List ℕ) → is_among x (then_others xs ys) ≡ false → (is_among x xs ≡ false) × (is_among x ys ≡ false)
in_neither x xs ys h =
    let others = filter (λ y. not (is_among y xs)) ys in
    let first : is_among x xs ≡ false = ⊎_elim (λ t. absurd (clash (among_first x xs others t) h)) (λ f. f) (cases_Bool (is_among x xs)) in
    (first, ⊎_elim (λ t. absurd (clash (among_second x xs others (kept (λ y. not (is_among y xs)) x ys (ap not first) t)) h)) (λ f. f) (cases_Bool (is_among x ys)))

-- what is not in the list without x is x, or not in the list
pub not_but : (x z : ℕ) (ys : List ℕ) → is_among z (but_not x ys) ≡ false → (nat_eq x z ≡ true) ⊎ (is_among z ys ≡ false)
not_but x z ys h =
    ⊎_elim
    (λ t. inl t)
    (λ f. ⊎_elim (λ t. absurd (clash (kept (λ y. not (nat_eq x y)) z ys (ap not f) t) h)) (λ g. inr g) (cases_Bool (is_among z ys)))
    (cases_Bool (nat_eq x z))

-- ---- what a list names

pub not_named : (es : Needs) (x : ℕ) → is_among x (keys_of es) ≡ false → need_of es x ≡ None
not_named [] x h = refl
not_named (e ∷ es) x h =
    let both = or_parts (nat_eq x e.0) (is_among x (keys_of es)) h in
    cond-false (nat_eq x e.0) (Some e.1) (need_of es x) both.0 ∙ not_named es x both.1

-- a test of each entry holds of what is named
pub each_named : (f : ℕ × MailboxType → Bool) (es : Needs) (x : ℕ) (a : MailboxType) → list_all f es ≡ true → need_of es x ≡ Some a → f (x, a) ≡ true
each_named f [] x a h at = cc
each_named f (e ∷ es) x a h at =
    let both = and_parts (f e) (list_all f es) h in
    ⊎_elim
    (λ t.
    let same : Some e.1 ≡ Some a = sym (cond-true (nat_eq x e.0) (Some e.1) (need_of es x) t) ∙ at in
    let value : e.1 ≡ a = cc in
    subst (λ y. f (y, a) ≡ true) (sym (eqb-true x e.0 t)) (subst (λ v. f (e.0, v) ≡ true) value both.0))
    (λ g. each_named f es x a both.1 (sym (cond-false (nat_eq x e.0) (Some e.1) (need_of es x) g) ∙ at))
    (cases_Bool (nat_eq x e.0))

-- ---- environments that pass and are divided

pass_here : (s : Scope) (xs : List ℕ) (g h : TypeEnv) → AllByRecursion (Met s) (passes xs g h) → (x : ℕ) → is_among x xs ≡ true → PassesTo (put_in s (g x)) (put_in s (h x))
pass_here s [] g h a x m = cc
pass_here s (z ∷ xs) g h a x m =
    ⊎_elim
    (λ l. subst (λ y. PassesTo (put_in s (g y)) (put_in s (h y))) (sym (eqb-true x z l)) a.0)
    (λ r. pass_here s xs g h a.1 x r)
    (or_cases (nat_eq x z) (is_among x xs) m)

-- what passes at each of the names passes everywhere, where neither environment names another
pub pass_all : (s : Scope) (xs : List ℕ) (g h : TypeEnv) → AllByRecursion (Met s) (passes xs g h) → ((x : ℕ) → is_among x xs ≡ false → (g x ≡ None) × (h x ≡ None)) → (x : ℕ) → PassesTo (put_in s (g x)) (put_in s (h x))
pass_all s xs g h a none x =
    ⊎_elim
    (λ t. pass_here s xs g h a x t)
    (λ f. let both = none x f in
    subst (λ o. PassesTo (put_in s o) (put_in s (h x))) (sym both.0) (subst (λ o. PassesTo None (put_in s o)) (sym both.1) tt))
    (cases_Bool (is_among x xs))

divide_here : (s : Scope) (xs : List ℕ) (g m n : TypeEnv) → AllByRecursion (Met s) (divides xs g m n) → (x : ℕ) → is_among x xs ≡ true → SplitsTo (put_in s (g x)) (put_in s (m x)) (put_in s (n x))
divide_here s [] g m n a x h = cc
divide_here s (z ∷ xs) g m n a x h =
    ⊎_elim
    (λ l. subst (λ y. SplitsTo (put_in s (g y)) (put_in s (m y)) (put_in s (n y))) (sym (eqb-true x z l)) a.0)
    (λ r. divide_here s xs g m n a.1 x r)
    (or_cases (nat_eq x z) (is_among x xs) h)

pub divide_all : (s : Scope) (xs : List ℕ) (g m n : TypeEnv) → AllByRecursion (Met s) (divides xs g m n) → ((x : ℕ) → is_among x xs ≡ false → (g x ≡ None) × (m x ≡ None) × (n x ≡ None)) → (x : ℕ) → SplitsTo (put_in s (g x)) (put_in s (m x)) (put_in s (n x))
divide_all s xs g m n a none x =
    ⊎_elim
    (λ t. divide_here s xs g m n a x t)
    (λ f. let all = none x f in
    subst (λ o. SplitsTo (put_in s o) (put_in s (m x)) (put_in s (n x))) (sym all.0)
    (subst (λ o. SplitsTo None (put_in s o) (put_in s (n x))) (sym all.1)
    (subst (λ o. SplitsTo None None (put_in s o)) (sym all.2) tt)))
    (cases_Bool (is_among x xs))

-- what passes to a part whose line is there
pub part_all : (s : Scope) (d : Derivation) (xs : List ℕ) (g : TypeEnv) (m : ℕ) (l : Line) → line_at d m ≡ Some l → AllByRecursion (Met s) (to_part d xs g m) → ((x : ℕ) → is_among x xs ≡ false → g x ≡ None) → (x : ℕ) → PassesTo (put_in s (g x)) (put_in s (need_of l.of.needs x))
part_all s d xs g m l there a none =
    let f : Line → List Demand = λ k. passes (then_others xs (keys_of k.of.needs)) g (need_of k.of.needs) in
    pass_all s (then_others xs (keys_of l.of.needs)) g (need_of l.of.needs)
    (subst (λ o. AllByRecursion (Met s) (of_line o f)) there a)
    (λ x h. let both = in_neither x xs (keys_of l.of.needs) h in (none x both.0, not_named l.of.needs x both.1))

-- ---- names of what is asked

pub not_asked : (types : TypeEnv) (k : ℕ) (es : List Expr) (x : ℕ) → is_among x (mailbox_args types k es) ≡ false → args_need types k es x ≡ None
not_asked types k [] x h = refl
not_asked types k (VarExpr z ∷ es) x h = go (types k) (λ q. not_asked types (suc k) es x q) h
  where
    go : (o : Option MailboxType) → (is_among x (mailbox_args types (suc k) es) ≡ false → args_need types (suc k) es x ≡ None) → is_among x (if_mailbox o z (mailbox_args types (suc k) es)) ≡ false → with_option z o (args_need types (suc k) es) x ≡ None
    go None deeper q = deeper q
    go (Some a) deeper q =
        let both = or_parts (nat_eq x z) (is_among x (mailbox_args types (suc k) es)) q in
        cond-false (nat_eq z x) (Some a) (args_need types (suc k) es x) (ne_turn x z both.0) ∙ deeper both.1
not_asked types k (Literal c ∷ es) x h = not_asked types (suc k) es x h
not_asked types k (OpExpr op a b ∷ es) x h = not_asked types (suc k) es x h

pub type_other : (x z : ℕ) (a : MailboxType) (g : TypeEnv) → nat_eq z x ≡ false → with_type x a g z ≡ g z
type_other x z a g h = cond-false (nat_eq x z) (Some a) (g z) (ne_turn z x h)

payloads_other : (types : TypeEnv) (k : ℕ) (xs : List ℕ) (g : TypeEnv) (z : ℕ) → is_among z xs ≡ false → with_payloads types k xs g z ≡ g z
payloads_other types k [] g z h = refl
payloads_other types k (x ∷ xs) g z h =
    let both = or_parts (nat_eq z x) (is_among z xs) h in
    go (types k) both.0 (payloads_other types (suc k) xs g z both.1)
  where
    go : (o : Option MailboxType) → nat_eq z x ≡ false → with_payloads types (suc k) xs g z ≡ g z → with_option x o (with_payloads types (suc k) xs g) z ≡ g z
    go None a b = b
    go (Some t) a b = type_other x z t (with_payloads types (suc k) xs g) a ∙ b

pub without_none : (x z : ℕ) (g : TypeEnv) → (nat_eq x z ≡ true) ⊎ (g z ≡ None) → without x g z ≡ None
without_none x z g h =
    ⊎_elim
    (λ t. cond-true (nat_eq x z) None (g z) t)
    (λ e. cond_both (nat_eq x z) None (g z) (λ o. o ≡ None) (λ _. refl) (λ _. e))
    h

-- what is not named in a clause's part
pub clause_none : (es : Needs) (x i : ℕ) (e : Pat) (decl : TagDecl) (r : Clause) (z : ℕ) → is_among z (then_others (but_not x (keys_of es)) (r.from ∷ r.vars)) ≡ false → clause_env (need_of es) x i e decl r z ≡ None
clause_none es x i e decl r z h =
    let both = in_neither z (but_not x (keys_of es)) (r.from ∷ r.vars) h in
    let names = or_parts (nat_eq z r.from) (is_among z r.vars) both.1 in
    let base = with_payloads (payload_type decl) 0 r.vars (without x (need_of es)) in
    type_other r.from z (mailbox_type i Receiving (residual e r.tag) Returnable) base names.0
    ∙ payloads_other (payload_type decl) 0 r.vars (without x (need_of es)) z names.1
    ∙ without_none x z (need_of es)
    (⊎_elim (λ t. inl t) (λ f. inr (not_named es z f)) (not_but x z (keys_of es) both.0))

-- ---- values put into environments

-- the environment with values put in
abbrev pub put_all : Scope → TypeEnv → TypeEnv
put_all s g x = put_in s (g x)

pub put_type : (s : Scope) (x : ℕ) (a : MailboxType) (g : TypeEnv) → put_all s (with_type x a g) ≡ with_type x (type_under (pattern_of s) a) (put_all s g)
put_type s x a g = fun_ext at
  where
    at : (z : ℕ) → put_in s (with_type x a g z) ≡ with_type x (type_under (pattern_of s) a) (put_all s g) z
    at z = elim (nat_eq x z) as (λ b. put_in s (if b then Some a else g z) ≡ (if b then Some (type_under (pattern_of s) a) else put_in s (g z))) [ true ↦ refl | false ↦ refl ]

pub put_without : (s : Scope) (x : ℕ) (g : TypeEnv) → put_all s (without x g) ≡ without x (put_all s g)
put_without s x g = fun_ext at
  where
    at : (z : ℕ) → put_in s (without x g z) ≡ without x (put_all s g) z
    at z = elim (nat_eq x z) as (λ b. put_in s (if b then None else g z) ≡ (if b then None else put_in s (g z))) [ true ↦ refl | false ↦ refl ]

pub put_without_name : (s : Scope) (x : Option ℕ) (g : TypeEnv) → put_all s (without_name x g) ≡ without_name x (put_all s g)
put_without_name s None g = refl
put_without_name s (Some x) g = put_without s x g

pub put_option : (s : Scope) (x : ℕ) (o : Option MailboxType) (g : TypeEnv) → put_all s (with_option x o g) ≡ with_option x (put_in s o) (put_all s g)
put_option s x None g = refl
put_option s x (Some a) g = put_type s x a g

pub put_args : (s : Scope) (types : TypeEnv) (k : ℕ) (es : List Expr) → put_all s (args_need types k es) ≡ args_need (put_all s types) k es
put_args s types k [] = refl
put_args s types k (VarExpr z ∷ es) =
    put_option s z (types k) (args_need types (suc k) es) ∙ ap (with_option z (put_in s (types k))) (put_args s types (suc k) es)
put_args s types k (Literal c ∷ es) = put_args s types (suc k) es
put_args s types k (OpExpr op a b ∷ es) = put_args s types (suc k) es

pub put_payloads : (s : Scope) (types : TypeEnv) (k : ℕ) (xs : List ℕ) (g : TypeEnv) → put_all s (with_payloads types k xs g) ≡ with_payloads (put_all s types) k xs (put_all s g)
put_payloads s types k [] g = refl
put_payloads s types k (x ∷ xs) g =
    put_option s x (types k) (with_payloads types (suc k) xs g) ∙ ap (with_option x (put_in s (types k))) (put_payloads s types (suc k) xs g)

pub put_returnable : (s : Scope) (g : TypeEnv) → put_all s (λ x. returnable (g x)) ≡ (λ x. returnable (put_all s g x))
put_returnable s g = fun_ext (λ x. at (g x))
  where
    at : (o : Option MailboxType) → put_in s (returnable o) ≡ returnable (put_in s o)
    at None = refl
    at (Some a) = refl

pub put_names : (s : Scope) (types : TypeEnv) (k : ℕ) (es : List Expr) → mailbox_args (put_all s types) k es ≡ mailbox_args types k es
put_names s types k [] = refl
put_names s types k (VarExpr z ∷ es) = go (types k) ∙ ap (if_mailbox (types k) z) (put_names s types (suc k) es)
  where
    go : (o : Option MailboxType) → if_mailbox (put_in s o) z (mailbox_args (put_all s types) (suc k) es) ≡ if_mailbox o z (mailbox_args (put_all s types) (suc k) es)
    go None = refl
    go (Some a) = refl
put_names s types k (Literal c ∷ es) = put_names s types (suc k) es
put_names s types k (OpExpr op a b ∷ es) = put_names s types (suc k) es
