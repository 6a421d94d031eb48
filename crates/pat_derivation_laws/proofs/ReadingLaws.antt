-- What the tests of the rules say.
use Rattle.std.proofs.Common.{◌≡◌, ℕ, zero, suc, ◌+◌, ◌<◌, Bool, true, false, not, ◌&&◌, ◌||◌, nat_eq, List, [], ◌∷◌, length, Option, Some, None, ⊎_elim, refl, sym, ap, ◌∙◌, subst, arith}
use Rattle.std.specs.Prelude.{is_some, slice_get, option_and_then}
use Rattle.std.specs.List.{AllByRecursion, IsDistinct, list_all, list_any}
use Rattle.std.proofs.lemmas.Bool.{and_parts, and_from, or_cases, cases_Bool, cases_lt}
use Rattle.std.proofs.lemmas.Option.{slice_get_past}
use Rattle.pat_words_spec.specs.Patterns.{Pat, subst_of}
use Rattle.pat_words_laws.proofs.PatternLaws.{inhabited_from}
use Rattle.pat_words_laws.proofs.CoverLaws.{covers_to, covers_from}
use Rattle.pat_semantics_spec.specs.Programs.{Program, Polarity, Sending, Receiving, Sort, TagDecl, Function, Clause, Core, Call, Send, Guard, Node, function_at, is_among, clause_binders}
use Rattle.pat_type_system_spec.specs.Types.{MailboxType, TypeOf, BaseTerm, MailboxTerm, TypeEnv}
use Rattle.pat_type_system_spec.specs.Typings.{sort_type, param_type, result_type, payload_sort, payload_type, mailbox_args, HasMailboxPayload, is_received, HasWord, TypeHasWord}
use Rattle.pat_inclusion_spec.specs.Values.{Scope, filled, pattern_of}
use Rattle.pat_inclusion_spec.specs.Certificates.{Cert, CoverCert, Inclusion, is_trivial, is_shown, are_shown}
use Rattle.pat_inclusion_laws.proofs.Taking.{none_shown, some_shown, trivial_takes_none, other_takes_next}
use Rattle.pat_derivation_spec.specs.Same.{all_differ}
use Rattle.pat_derivation_spec.specs.Derivations.{Line, Derivation, line_at, scope_of, written_typing}
use Rattle.pat_derivation_spec.specs.Conditions.{Place, is_first}
use Rattle.pat_derivation_spec.specs.Rules.{has_a_word, type_has_word, param_has_word, params_have_words, signature_has_words, has_words, args_differ, payloads_differ, tag_of_kind, has_no_alias, has_mailbox_payload, names_only, clause_keeps_apart, payloads_stand_apart, guard_covers}
use Rattle.pat_derivation_spec.specs.Readings.{HasWords, HasNoAlias, KeepsApart, PayloadsStandApart, GuardCovers, AreTaken, all_taken, takes_none, takes_next}
use Rattle.pat_derivation_laws.proofs.Filled.{filled_to, filled_inhabited}
use Rattle.pat_derivation_spec.specs.Truth.{place}
use Rattle.pat_derivation_laws.proofs.Terms.{distinct, payload_found}
use Rattle.pat_type_schemes_spec.specs.NodeTypes.{result_under}
use Rattle.std.specs.Map.{keys_of}

-- ---- lists

all_to : {A : Type 0} (f : A → Bool) (P : A → Type 0) → ((x : A) → f x ≡ true → P x) → (xs : List A) → list_all f xs ≡ true → AllByRecursion P xs
all_to f P show [] h = tt
all_to f P show (x ∷ xs) h = let both = and_parts (f x) (list_all f xs) h in (show x both.0, all_to f P show xs both.1)

all_from : {A : Type 0} (f : A → Bool) (P : A → Type 0) → ((x : A) → P x → f x ≡ true) → (xs : List A) → AllByRecursion P xs → list_all f xs ≡ true
all_from f P show [] a = refl
all_from f P show (x ∷ xs) a = and_from (f x) (list_all f xs) (show x a.0) (all_from f P show xs a.1)

-- a test that is asked only where another passes
asked_to : (a b : Bool) → (not a || b) ≡ true → a ≡ true → b ≡ true
asked_to a b h t = ⊎_elim (λ n. let c : false ≡ true = sym (ap not t) ∙ n in cc) (λ k. k) (or_cases (not a) b h)

asked_from : (a b : Bool) → (a ≡ true → b ≡ true) → (not a || b) ≡ true
asked_from true b h = h refl
asked_from false b h = refl

-- ---- Empty

word_to : (s : Scope) (q : Polarity) (e : Pat) → has_a_word s q e ≡ true → HasWord q (filled s e)
word_to s Sending e h = filled_inhabited s e h
word_to s Receiving e h = tt

word_from : (s : Scope) (q : Polarity) (e : Pat) → HasWord q (filled s e) → has_a_word s q e ≡ true
word_from s Sending e h = inhabited_from (subst_of (pattern_of s) e) h.0 (filled_to s e h.0 h.1)
word_from s Receiving e h = refl

type_to : (s : Scope) (t : TypeOf) → type_has_word s t ≡ true → TypeHasWord (result_under (pattern_of s) t)
type_to s (BaseTerm b) h = tt
type_to s (MailboxTerm i q e) h = word_to s q e h

type_from : (s : Scope) (t : TypeOf) → TypeHasWord (result_under (pattern_of s) t) → type_has_word s t ≡ true
type_from s (BaseTerm b) h = refl
type_from s (MailboxTerm i q e) h = word_from s q e h

params_to : (s : Scope) (types : TypeEnv) (k : ℕ) (sorts : List Sort) → params_have_words s types k sorts ≡ true → (j : ℕ) → j < length sorts → (a : MailboxType) → types (k + j) ≡ Some a → HasWord a.polarity (filled s a.pattern)
params_to s types k [] h j l a at = absurd (omega arith)
params_to s types k (x ∷ more) h zero l a at =
    let e : k ≡ k + 0 = omega arith in
    let here = (and_parts (param_has_word s (types k)) (params_have_words s types (suc k) more) h).0 in
    word_to s a.polarity a.pattern (subst (λ o. param_has_word s o ≡ true) (ap types e ∙ at) here)
params_to s types k (x ∷ more) h (suc j) l a at =
    let e : suc k + j ≡ k + suc j = omega arith in
    params_to s types (suc k) more (and_parts (param_has_word s (types k)) (params_have_words s types (suc k) more) h).1 j (omega arith) a (ap types e ∙ at)

params_from : (s : Scope) (types : TypeEnv) (k : ℕ) (sorts : List Sort) → ((j : ℕ) (a : MailboxType) → types j ≡ Some a → HasWord a.polarity (filled s a.pattern)) → params_have_words s types k sorts ≡ true
params_from s types k [] h = refl
params_from s types k (x ∷ more) h =
    and_from (param_has_word s (types k)) (params_have_words s types (suc k) more) (go (types k) refl) (params_from s types (suc k) more h)
  where
    go : (o : Option MailboxType) → types k ≡ o → param_has_word s o ≡ true
    go None e = refl
    go (Some a) e = word_from s a.polarity a.pattern (h k a e)

pub empty_to : (p : Program) (d : Derivation) (h : Place) → has_words p d h ≡ true → HasWords p d h
empty_to p d h t =
    let s = scope_of p d in
    let types = param_type (written_typing p d) h.node.function h.function in
    let result = result_type (written_typing p d) h.node.function h.function in
    let b1 = type_has_word s h.line.of.result in
    let b2 = list_all (λ (e : ℕ × MailboxType). has_a_word s e.1.polarity e.1.pattern) h.line.of.needs in
    let b3 = not (is_first h) || signature_has_words p d h in
    let x = and_parts b1 (b2 && b3) t in
    let y = and_parts b2 b3 x.1 in
    let signature : is_first h ≡ true → (params_have_words s types 0 h.function.params ≡ true) × (type_has_word s result ≡ true) =
    λ first. and_parts (params_have_words s types 0 h.function.params) (type_has_word s result) (asked_to (is_first h) (signature_has_words p d h) y.1 first) in
    record {
      result = type_to s h.line.of.result x.0;
      env = all_to (λ (e : ℕ × MailboxType). has_a_word s e.1.polarity e.1.pattern) (λ e. HasWord e.1.polarity (filled s e.1.pattern)) (λ e w. word_to s e.1.polarity e.1.pattern w) h.line.of.needs y.0;
      params = λ first k a at. ⊎_elim
          (λ l. let e : 0 + k ≡ k = omega arith in params_to s types 0 h.function.params (signature first).0 k l a (ap types e ∙ at))
          (λ g. let none : None ≡ Some a = sym (ap (option_and_then (sort_type ((written_typing p d).param_patterns h.node.function k))) (slice_get_past h.function.params k g)) ∙ at in cc)
          (cases_lt k (length h.function.params));
      gives = λ first. type_to s result (signature first).1;
    }

pub empty_from : (p : Program) (d : Derivation) (h : Place) → HasWords p d h → has_words p d h ≡ true
empty_from p d h r =
    let s = scope_of p d in
    let types = param_type (written_typing p d) h.node.function h.function in
    let result = result_type (written_typing p d) h.node.function h.function in
    let b2 = list_all (λ (e : ℕ × MailboxType). has_a_word s e.1.polarity e.1.pattern) h.line.of.needs in
    let b3 = not (is_first h) || signature_has_words p d h in
    and_from (type_has_word s h.line.of.result) (b2 && b3) (type_from s h.line.of.result r.result)
    (and_from b2 b3
    (all_from (λ (e : ℕ × MailboxType). has_a_word s e.1.polarity e.1.pattern) (λ e. HasWord e.1.polarity (filled s e.1.pattern)) (λ e w. word_from s e.1.polarity e.1.pattern w) h.line.of.needs r.env)
    (asked_from (is_first h) (signature_has_words p d h)
    (λ first. and_from (params_have_words s types 0 h.function.params) (type_has_word s result)
    (params_from s types 0 h.function.params (r.params first))
    (type_from s result (r.gives first)))))

-- ---- Alias

undistinct : (xs : List ℕ) → IsDistinct nat_eq xs → all_differ xs ≡ true
unfolding IsDistinct
undistinct [] h = refl
undistinct (x ∷ xs) h = and_from (not (is_among x xs)) (all_differ xs) (ap not (apart x xs h.0)) (undistinct xs h.1)
  where
    apart : (x : ℕ) (ys : List ℕ) → AllByRecursion (λ y. nat_eq x y ≡ false) ys → is_among x ys ≡ false
    apart x [] a = refl
    apart x (y ∷ ys) a = ap (λ b. b || is_among x ys) a.0 ∙ apart x ys a.1

some_same : {A : Type 0} (a b : A) → Some a ≡ Some b → a ≡ b
some_same a b h = cc

abbrev with_core : Node → Core → Node
with_core c core = record { core = core; kind = c.kind; function = c.function }

pub alias_to : (p : Program) (d : Derivation) (n : ℕ) (c : Node) (g : Function) (l : Line) (core : Core) → has_no_alias p d (place n (with_core c core) g l) ≡ true → HasNoAlias p d (place n c g l) core
alias_to p d n c g l (Call f args) h = λ k at.
    distinct (mailbox_args (param_type (written_typing p d) f k) 0 args) (subst (λ o. args_differ (written_typing p d) f args o ≡ true) at h)
alias_to p d n c g l (Send x m args) h = λ decl at.
    distinct (x ∷ mailbox_args (payload_type decl) 0 args) (subst (λ o. payloads_differ x args o ≡ true) at h)
alias_to p d n c g l _ h = tt

pub alias_from : (p : Program) (d : Derivation) (n : ℕ) (c : Node) (g : Function) (l : Line) (core : Core) → HasNoAlias p d (place n c g l) core → has_no_alias p d (place n (with_core c core) g l) ≡ true
alias_from p d n c g l (Call f args) h = go (function_at p f) refl
  where
    go : (o : Option Function) → function_at p f ≡ o → args_differ (written_typing p d) f args o ≡ true
    go None e = refl
    go (Some k) e = undistinct (mailbox_args (param_type (written_typing p d) f k) 0 args) (h k e)
alias_from p d n c g l (Send x m args) h = go (tag_of_kind p m (slice_get g.vars x)) refl
  where
    go : (o : Option TagDecl) → tag_of_kind p m (slice_get g.vars x) ≡ o → payloads_differ x args o ≡ true
    go None e = refl
    go (Some decl) e = undistinct (x ∷ mailbox_args (payload_type decl) 0 args) (h decl e)
alias_from p d n c g l _ h = refl

-- ---- Payload

payload_there : (decl : TagDecl) → has_mailbox_payload (Some decl) ≡ true → HasMailboxPayload decl
payload_there decl h = go decl.payloads h
  where
    go : (sorts : List Sort) → list_any (λ a. is_some (payload_sort a)) sorts ≡ true → (k : ℕ) × (is_some (option_and_then payload_sort (slice_get sorts k)) ≡ true)
    go [] q = cc
    go (a ∷ more) q =
        ⊎_elim (λ l. (0, l)) (λ r. let t = go more r in (suc t.0, t.1)) (or_cases (is_some (payload_sort a)) (list_any (λ b. is_some (payload_sort b)) more) q)

keeps_to : (p : Program) (d : Derivation) (h : Place) (x : ℕ) (r : Clause) → clause_keeps_apart p d (slice_get h.function.vars x) r ≡ true → KeepsApart p d h x r
keeps_to p d h x r t decl l at has there =
    let tag = subst (λ o. (not (has_mailbox_payload o) || names_only (clause_binders r) (line_at d r.body)) ≡ true) at t in
    let names = asked_to (has_mailbox_payload (Some decl)) (names_only (clause_binders r) (line_at d r.body)) tag (payload_found decl has) in
    all_to (λ z. is_among z (clause_binders r)) (λ z. is_among z (clause_binders r) ≡ true) (λ z w. w) (keys_of l.of.needs)
    (subst (λ o. names_only (clause_binders r) o ≡ true) there names)

keeps_from : (p : Program) (d : Derivation) (h : Place) (x : ℕ) (r : Clause) → KeepsApart p d h x r → clause_keeps_apart p d (slice_get h.function.vars x) r ≡ true
keeps_from p d h x r k = go (tag_of_kind p r.tag (slice_get h.function.vars x)) refl
  where
    names : (decl : TagDecl) → tag_of_kind p r.tag (slice_get h.function.vars x) ≡ Some decl → HasMailboxPayload decl → (o : Option Line) → line_at d r.body ≡ o → names_only (clause_binders r) o ≡ true
    names decl at has None there = refl
    names decl at has (Some l) there =
        all_from (λ z. is_among z (clause_binders r)) (λ z. is_among z (clause_binders r) ≡ true) (λ z w. w) (keys_of l.of.needs) (k decl l at has there)

    go : (o : Option TagDecl) → tag_of_kind p r.tag (slice_get h.function.vars x) ≡ o → (not (has_mailbox_payload o) || names_only (clause_binders r) (line_at d r.body)) ≡ true
    go None e = refl
    go (Some decl) e =
        asked_from (has_mailbox_payload (Some decl)) (names_only (clause_binders r) (line_at d r.body))
        (λ t. names decl e (payload_there decl t) (line_at d r.body) refl)

pub payload_to : (p : Program) (d : Derivation) (n : ℕ) (c : Node) (g : Function) (l : Line) (core : Core) → payloads_stand_apart p d (place n (with_core c core) g l) ≡ true → PayloadsStandApart p d (place n c g l) core
payload_to p d n c g l (Guard x e f rs) h =
    all_to (clause_keeps_apart p d (slice_get g.vars x)) (KeepsApart p d (place n c g l) x) (λ r w. keeps_to p d (place n c g l) x r w) rs h
payload_to p d n c g l _ h = tt

pub payload_from : (p : Program) (d : Derivation) (n : ℕ) (c : Node) (g : Function) (l : Line) (core : Core) → PayloadsStandApart p d (place n c g l) core → payloads_stand_apart p d (place n (with_core c core) g l) ≡ true
payload_from p d n c g l (Guard x e f rs) h =
    all_from (clause_keeps_apart p d (slice_get g.vars x)) (KeepsApart p d (place n c g l) x) (λ r w. keeps_from p d (place n c g l) x r w) rs h
payload_from p d n c g l _ h = refl

-- ---- Covers

pub guard_to : (n : ℕ) (c : Node) (g : Function) (l : Line) (core : Core) → guard_covers (place n (with_core c core) g l) ≡ true → GuardCovers core
guard_to n c g l (Guard x e f rs) h = covers_to e (is_received rs) (is_some f) h
guard_to n c g l _ h = tt

pub guard_from : (n : ℕ) (c : Node) (g : Function) (l : Line) (core : Core) → GuardCovers core → guard_covers (place n (with_core c core) g l) ≡ true
guard_from n c g l (Guard x e f rs) h = covers_from e (is_received rs) (is_some f) h
guard_from n c g l _ h = refl

-- ---- Cert

pub taken_to : (s : Scope) (qs : List Inclusion) (certs : List Cert) → are_shown s qs certs ≡ true → AreTaken s qs certs
taken_to s [] [] h = all_taken
taken_to s [] (cert ∷ certs) h = cc
taken_to s (q ∷ qs) [] h =
    let both = and_parts (is_shown s q None) (are_shown s qs []) h in
    ⊎_elim
    (λ t. takes_none t both.0 (taken_to s qs [] both.1))
    (λ f. let c : false ≡ true = sym (no_next s q qs f) ∙ h in cc)
    (cases_Bool (is_trivial s q.left q.right))
  where
    no_next : (s : Scope) (q : Inclusion) (qs : List Inclusion) → is_trivial s q.left q.right ≡ false → are_shown s (q ∷ qs) [] ≡ false
    no_next s q qs f = (other_takes_next s q qs (CoverCert []) [] f).0
taken_to s (q ∷ qs) (cert ∷ certs) h =
    ⊎_elim
    (λ l. let both = and_parts (is_shown s q None) (are_shown s qs (cert ∷ certs)) l in
    ⊎_elim
    (λ t. takes_none t both.0 (taken_to s qs (cert ∷ certs) both.1))
    (λ f. let c : false ≡ true = sym (not_shown s q f) ∙ both.0 in cc)
    (cases_Bool (is_trivial s q.left q.right)))
    (λ r. let both = and_parts (is_shown s q (Some cert)) (are_shown s qs certs) r in
    ⊎_elim
    (λ t. let c : false ≡ true = sym (some_not_shown s q cert t) ∙ both.0 in cc)
    (λ f. takes_next f both.0 (taken_to s qs certs both.1))
    (cases_Bool (is_trivial s q.left q.right)))
    (or_cases (is_shown s q None && are_shown s qs (cert ∷ certs)) (is_shown s q (Some cert) && are_shown s qs certs) h)
  where
    not_shown : (s : Scope) (q : Inclusion) → is_trivial s q.left q.right ≡ false → is_shown s q None ≡ false
    not_shown s q f = none_shown s q.interface q.left q.right f

    some_not_shown : (s : Scope) (q : Inclusion) (cert : Cert) → is_trivial s q.left q.right ≡ true → is_shown s q (Some cert) ≡ false
    some_not_shown s q cert t = some_shown s q.interface q.left q.right cert t

pub taken_from : (s : Scope) (qs : List Inclusion) (certs : List Cert) → AreTaken s qs certs → are_shown s qs certs ≡ true
taken_from s qs certs all_taken = refl
taken_from s qs certs (takes_none {q = q} {qs = more} {certs = left} t h rest) =
    trivial_takes_none s q more left t ∙ and_from (is_shown s q None) (are_shown s more left) h (taken_from s more left rest)
taken_from s qs certs (takes_next {q = q} {qs = more} {cert = cert} {certs = left} f h rest) =
    (other_takes_next s q more cert left f).1 ∙ and_from (is_shown s q (Some cert)) (are_shown s more left) h (taken_from s more left rest)
