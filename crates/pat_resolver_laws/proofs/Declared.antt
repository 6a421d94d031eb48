-- Declarations that break no rule: interfaces, types, and the heads of functions.
use Rattle.std.proofs.Common.{◌≡◌, ◌≢◌, ◌+◌, ◌<◌, ◌≤◌, ℕ, zero, suc, false, not, nat_eq, List, [], ◌∷◌, ◌++◌, length, Option, Some, None, refl, ap, sym, ◌∙◌, subst, arith}
use Rattle.std.specs.Prelude.{slice_get, map, bytes_eq}
use Rattle.std.specs.List.{AllByRecursion, IsDistinct, flat_map}
use Rattle.std.proofs.lemmas.Bool.{eqb-false}
use Rattle.std.proofs.lemmas.List.{length-map}
use Rattle.std.proofs.lemmas.Option.{slice_get_within}
use Rattle.std.proofs.lemmas.Map.Keys.{IsDistinct-cons}
use Rattle.pat_words_spec.specs.Words.{Word}
use Rattle.pat_words_spec.specs.Patterns.{Pat, In, is_inhabited}
use Rattle.pat_words_laws.proofs.PatternLaws.{inhabited_to}
use Rattle.pat_semantics_spec.specs.Programs.{Polarity, Sending, Receiving, Sort, BaseSort, MailboxSort, Interface, Program, kind_of}
use Rattle.pat_semantics_spec.specs.WellFormed.{IsPatternOf, IsPayload, IsSignature, InterfaceFits}
use Rattle.pat_parser_spec.specs.Trees as tree
use Rattle.pat_resolver_spec.specs.Scopes.{is_one_of}
use Rattle.pat_resolver_spec.specs.Heads.{InterfaceNames, interface_names, interface_named, pattern_of, mailbox_sort, sort_of, tag_of, interfaces_of, Definition, definitions_of, Heads}
use Rattle.pat_resolver_spec.specs.Findings.{Finding, Twice, EmptySending, TooManyTags, unless, repeated, pattern_findings, empty_sending, mailbox_findings, type_findings, messages_findings, params_findings, heads_findings}
use Rattle.pat_lexer_spec.specs.Spelled.{IsName}
use Rattle.pat_resolver_spec.specs.Numbering.{nodes_in, functions_from}
use Rattle.pat_resolver_spec.specs.Claims.{HasPattern, IsMessage, IsDecl}
use Rattle.pat_resolver_spec.specs.Resolved.{InterfaceIsNamed}
use Rattle.pat_resolver_laws.proofs.Counting.{none_first, none_second, passes, not_true}
use Rattle.pat_resolver_laws.proofs.Expressions.{found_there, pattern_closed, pattern_below}
use Rattle.pat_resolver_laws.proofs.Binding.{KindIsThere}
use Rattle.pat_resolver_laws.proofs.Terms.{Among, or_false_first, or_false_second, no_distinct}

-- ---- lists

pub none_each : {A : Type 0} (g : A → List Finding) (xs : List A) → flat_map g xs ≡ [] → AllByRecursion (λ x. g x ≡ []) xs
none_each g [] e = tt
none_each g (x ∷ xs) e = (none_first (g x) (flat_map g xs) e, none_each g xs (none_second (g x) (flat_map g xs) e))

pub all_at : {A : Type 0} (P : A → Type 0) (xs : List A) (i : ℕ) (x : A) → AllByRecursion P xs → slice_get xs i ≡ Some x → P x
all_at P [] i x all e = cc
all_at P (y ∷ xs) zero x all e = let same : y ≡ x = cc in subst P same all.0
all_at P (y ∷ xs) (suc i) x all e = all_at P xs i x all.1 e

-- ---- types

-- the names of interfaces and tags are the program's
abbrev pub NamesFit : Program → List InterfaceNames → Type 0
NamesFit p names = (i : ℕ) (e : InterfaceNames) → slice_get names i ≡ Some e → (j : Interface) × (slice_get p.interfaces i ≡ Some j) × (length e.tags ≡ length j.tags)

module _ (p : Program) (names : List InterfaceNames) (fit : NamesFit p names) where
  pattern_fits : (i : ℕ) (e : InterfaceNames) (q : tree.Pattern) → slice_get names i ≡ Some e → pattern_findings e.tags q ≡ [] → IsPatternOf p i (pattern_of e.tags q)
  pattern_fits i e q at none =
      let j = fit i e at in
      record { interface = j.0; there = j.1; tags = pattern_below e.tags (length j.0.tags) q j.2 none; closed = pattern_closed e.tags q }

  has_word : (e : Pat) (at : tree.Span) → empty_sending Sending e at ≡ [] → (w : Word) × In e w
  has_word e at none = inhabited_to e (passes (is_inhabited e) EmptySending at none)

  signature_found : (x : tree.Name) (q : Polarity) (e : Option tree.Pattern) (at : tree.Span) (o : Option (ℕ × InterfaceNames)) → ((i : ℕ × InterfaceNames) → o ≡ Some i → slice_get names i.0 ≡ Some i.1) → mailbox_findings x q e at o ≡ [] → IsSignature p (mailbox_sort q e o)
  signature_found x q e at None there none = cc
  signature_found x q None at (Some i) there none = let j = fit i.0 i.1 (there i refl) in slice_get_within p.interfaces i.0 j.0 j.1
  signature_found x Sending (Some e) at (Some i) there none = (
    pattern_fits i.0 i.1 e (there i refl) (none_first (pattern_findings i.1.tags e) (empty_sending Sending (pattern_of i.1.tags e) at) none),
    has_word (pattern_of i.1.tags e) at (none_second (pattern_findings i.1.tags e) (empty_sending Sending (pattern_of i.1.tags e) at) none),
  )
  signature_found x Receiving (Some e) at (Some i) there none = pattern_fits i.0 i.1 e (there i refl) (none_first (pattern_findings i.1.tags e) [] none)

  payload_found : (x : tree.Name) (q : Polarity) (e : Option tree.Pattern) (at : tree.Span) (o : Option (ℕ × InterfaceNames)) → ((i : ℕ × InterfaceNames) → o ≡ Some i → slice_get names i.0 ≡ Some i.1) → HasPattern (tree.MailboxType x q e at) → mailbox_findings x q e at o ≡ [] → IsPayload p (mailbox_sort q e o)
  payload_found x q e at None there written none = cc
  payload_found x q None at (Some i) there written none = absurd written
  payload_found x Sending (Some e) at (Some i) there written none = (
    pattern_fits i.0 i.1 e (there i refl) (none_first (pattern_findings i.1.tags e) (empty_sending Sending (pattern_of i.1.tags e) at) none),
    has_word (pattern_of i.1.tags e) at (none_second (pattern_findings i.1.tags e) (empty_sending Sending (pattern_of i.1.tags e) at) none),
  )
  payload_found x Receiving (Some e) at (Some i) there written none = pattern_fits i.0 i.1 e (there i refl) (none_first (pattern_findings i.1.tags e) [] none)

  pub signature_fits : (w : tree.WrittenType) → type_findings names w ≡ [] → IsSignature p (sort_of names w)
  signature_fits (tree.BaseType b at) none = tt
  signature_fits (tree.MailboxType x q e at) none = signature_found x q e at (interface_named names x.text) (λ i h. found_there (λ (e : InterfaceNames). e.name) x.text names i.0 i.1 h) none

  pub payload_fits : (w : tree.WrittenType) → HasPattern w → type_findings names w ≡ [] → IsPayload p (sort_of names w)
  payload_fits (tree.BaseType b at) written none = tt
  payload_fits (tree.MailboxType x q e at) written none = payload_found x q e at (interface_named names x.text) (λ i h. found_there (λ (e : InterfaceNames). e.name) x.text names i.0 i.1 h) written none

  payloads_fit : (ws : List tree.WrittenType) → AllByRecursion HasPattern ws → AllByRecursion (λ w. type_findings names w ≡ []) ws → AllByRecursion (IsPayload p) (map (sort_of names) ws)
  payloads_fit [] written none = tt
  payloads_fit (w ∷ ws) written none = (payload_fits w written.0 none.0, payloads_fit ws written.1 none.1)

  -- ---- the tags of an interface

  record TagsFit (earlier : List (List ℕ)) (ms : List tree.Message) : Type 0 where
    few : length earlier + length ms ≤ 32
    distinct : IsDistinct bytes_eq (map (λ t. t.name) (map (tag_of names) ms))
    apart : (s : List ℕ) → Among s earlier → AllByRecursion (λ x. bytes_eq s x ≡ false) (map (λ t. t.name) (map (tag_of names) ms))
    payloads : AllByRecursion (λ t. AllByRecursion (IsPayload p) t.payloads) (map (tag_of names) ms)

  tags_fit : (earlier : List (List ℕ)) (ms : List tree.Message) → length earlier ≤ 32 → AllByRecursion IsMessage ms → messages_findings names earlier ms ≡ [] → TagsFit earlier ms
  tags_fit earlier [] few written none = record { few = omega (arith, few); distinct = no_distinct bytes_eq; apart = λ s a. tt; payloads = tt }
  tags_fit earlier (m ∷ ms) few written none =
      let f1 = repeated earlier m.name in
      let f2 = unless (not (nat_eq (length earlier) 32)) TooManyTags m.name.span in
      let f3 = flat_map (type_findings names) m.payloads in
      let f4 = messages_findings names (m.name.text ∷ earlier) ms in
      let n1 = none_first (f1 ++ f2 ++ f3) f4 none in
      let n2 = none_first (f1 ++ f2) f3 n1 in
      let new = not_true (is_one_of m.name.text earlier) (passes (not (is_one_of m.name.text earlier)) Twice m.name.span (none_first f1 f2 n2)) in
      let other = not_true (nat_eq (length earlier) 32) (passes (not (nat_eq (length earlier) 32)) TooManyTags m.name.span (none_second f1 f2 n2)) in
      let room = eqb-false (length earlier) 32 other in
      let rest = tags_fit (m.name.text ∷ earlier) ms (omega (arith, few, room)) written.1 (none_second (f1 ++ f2 ++ f3) f4 none) in
      let all = rest.few in
      record {
        few = omega (arith, all);
        distinct = IsDistinct-cons bytes_eq m.name.text (map (λ t. t.name) (map (tag_of names) ms)) (rest.apart m.name.text (λ x e. or_false_first (bytes_eq m.name.text x) (is_one_of x earlier) e)) rest.distinct;
        apart = λ s a. (a m.name.text new, rest.apart s (λ x e. a x (or_false_second (bytes_eq m.name.text x) (is_one_of x earlier) e)));
        payloads = (payloads_fit m.payloads written.0.payloads (none_each (type_findings names) m.payloads (none_second (f1 ++ f2) f3 n1)), rest.payloads);
      }

  some_messages : (ms : List tree.Message) → ms ≢ [] → 1 ≤ length (map (tag_of names) ms)
  some_messages [] h = absurd (h refl)
  some_messages (m ∷ ms) h = omega arith

  interface_fits : (x : List ℕ) (ms : List tree.Message) → ms ≢ [] → AllByRecursion IsMessage ms → messages_findings names [] ms ≡ [] → InterfaceFits p (record { name = x; tags = map (tag_of names) ms })
  interface_fits x ms some written none =
      let tags = tags_fit [] ms (omega arith) written none in
      let few = tags.few in
      let long = length-map ms (tag_of names) in
      record { some = some_messages ms some; few = omega (arith, few, long); names = tags.distinct; payloads = tags.payloads }

  -- ---- functions

  -- the types in a function's head are right
  pub record HeadFits (d : Definition) : Type 0 where
    pub params : AllByRecursion (IsSignature p) (map (λ c. sort_of names c.type) d.params)
    pub result : IsSignature p (sort_of names d.result)

  params_fit : (earlier : List (List ℕ)) (ps : List tree.Param) → params_findings names earlier ps ≡ [] → AllByRecursion (IsSignature p) (map (λ c. sort_of names c.type) ps)
  params_fit earlier [] none = tt
  params_fit earlier (c ∷ ps) none =
      let f1 = repeated earlier c.name in
      let f2 = type_findings names c.type in
      let f3 = params_findings names (c.name.text ∷ earlier) ps in
      (signature_fits c.type (none_second f1 f2 (none_first (f1 ++ f2) f3 none)), params_fit (c.name.text ∷ earlier) ps (none_second (f1 ++ f2) f3 none))

  -- ---- all heads

  pub record HeadsAreRight (earlier : List (List ℕ)) (ds : tree.Tree) : Type 0 where
    pub interfaces : AllByRecursion (InterfaceFits p) (interfaces_of names ds)
    pub distinct : IsDistinct bytes_eq (map (λ i. i.name) (interfaces_of names ds))
    pub apart : (s : List ℕ) → Among s earlier → AllByRecursion (λ x. bytes_eq s x ≡ false) (map (λ i. i.name) (interfaces_of names ds))
    pub functions : AllByRecursion HeadFits (definitions_of ds)

  pub heads_right : (interfaces functions : List (List ℕ)) (ds : tree.Tree) → AllByRecursion IsDecl ds → heads_findings names interfaces functions ds ≡ [] → HeadsAreRight interfaces ds
  heads_right interfaces functions [] written none = record { interfaces = tt; distinct = no_distinct bytes_eq; apart = λ s a. tt; functions = tt }
  heads_right interfaces functions (tree.InterfaceDecl x ms ∷ ds) written none =
      let f1 = repeated interfaces x in
      let f2 = messages_findings names [] ms in
      let f3 = heads_findings names (x.text ∷ interfaces) functions ds in
      let n1 = none_first (f1 ++ f2) f3 none in
      let new = not_true (is_one_of x.text interfaces) (passes (not (is_one_of x.text interfaces)) Twice x.span (none_first f1 f2 n1)) in
      let rest = heads_right (x.text ∷ interfaces) functions ds written.1 (none_second (f1 ++ f2) f3 none) in
      record {
        interfaces = (interface_fits x.text ms written.0.1 written.0.2 (none_second f1 f2 n1), rest.interfaces);
        distinct = IsDistinct-cons bytes_eq x.text (map (λ i. i.name) (interfaces_of names ds)) (rest.apart x.text (λ y e. or_false_first (bytes_eq x.text y) (is_one_of y interfaces) e)) rest.distinct;
        apart = λ s a. (a x.text new, rest.apart s (λ y e. a y (or_false_second (bytes_eq x.text y) (is_one_of y interfaces) e)));
        functions = rest.functions;
      }
  heads_right interfaces functions (tree.DefDecl x ps r m ∷ ds) written none =
      let f1 = repeated functions x in
      let f2 = params_findings names [] ps in
      let f3 = type_findings names r in
      let f4 = heads_findings names interfaces (x.text ∷ functions) ds in
      let n1 = none_first (f1 ++ f2 ++ f3) f4 none in
      let n2 = none_first (f1 ++ f2) f3 n1 in
      let rest = heads_right interfaces (x.text ∷ functions) ds written.1 (none_second (f1 ++ f2 ++ f3) f4 none) in
      record {
        interfaces = rest.interfaces;
        distinct = rest.distinct;
        apart = rest.apart;
        functions = (record { params = params_fit [] ps (none_second f1 f2 n2); result = signature_fits r (none_second (f1 ++ f2) f3 n1) }, rest.functions);
      }

-- ---- what is there

-- the names of the tags of a tree's interfaces are as many as its program's
pub names_are : (all : List InterfaceNames) (ds : tree.Tree) (i : ℕ) (e : InterfaceNames) → slice_get (interface_names ds) i ≡ Some e → (j : Interface) × (slice_get (interfaces_of all ds) i ≡ Some j) × (length e.tags ≡ length j.tags)
names_are all [] i e at = cc
names_are all (tree.InterfaceDecl x ms ∷ ds) zero e at =
    let same : record { name = x.text; tags = map (λ m. m.name.text) ms } ≡ e = cc in
    (record { name = x.text; tags = map (tag_of all) ms }, refl, ap (λ (e : InterfaceNames). length e.tags) (sym same) ∙ length-map ms (λ m. m.name.text) ∙ sym (length-map ms (tag_of all)))
names_are all (tree.InterfaceDecl x ms ∷ ds) (suc i) e at = names_are all ds i e at
names_are all (tree.DefDecl x ps r m ∷ ds) i e at = names_are all ds i e at

pattern_there : (p : Program) (i : ℕ) (e : Pat) → IsPatternOf p i e → i < length p.interfaces
pattern_there p i e q = slice_get_within p.interfaces i q.interface q.there

pub signature_there : (p : Program) (s : Sort) → IsSignature p s → KindIsThere p (kind_of s)
signature_there p (BaseSort b) h = tt
signature_there p (MailboxSort i q None) h = h
signature_there p (MailboxSort i Sending (Some e)) h = pattern_there p i e h.0
signature_there p (MailboxSort i Receiving (Some e)) h = pattern_there p i e h

pub payload_there : (p : Program) (s : Sort) → IsPayload p s → KindIsThere p (kind_of s)
payload_there p (BaseSort b) h = tt
payload_there p (MailboxSort i q None) h = absurd h
payload_there p (MailboxSort i Sending (Some e)) h = pattern_there p i e h.0
payload_there p (MailboxSort i Receiving (Some e)) h = pattern_there p i e h

pub signatures_there : (p : Program) (ss : List Sort) → AllByRecursion (IsSignature p) ss → AllByRecursion (KindIsThere p) (map kind_of ss)
signatures_there p [] all = tt
signatures_there p (s ∷ ss) all = (signature_there p s all.0, signatures_there p ss all.1)

pub payloads_there : (p : Program) (ss : List Sort) → AllByRecursion (IsPayload p) ss → AllByRecursion (KindIsThere p) (map kind_of ss)
payloads_there p [] all = tt
payloads_there p (s ∷ ss) all = (payload_there p s all.0, payloads_there p ss all.1)

-- ---- names

tags_named : (all : List InterfaceNames) (ms : List tree.Message) → AllByRecursion IsMessage ms → AllByRecursion (λ t. IsName t.name) (map (tag_of all) ms)
tags_named all [] written = tt
tags_named all (m ∷ ms) written = (written.0.name, tags_named all ms written.1)

pub interfaces_named : (all : List InterfaceNames) (ds : tree.Tree) → AllByRecursion IsDecl ds → AllByRecursion InterfaceIsNamed (interfaces_of all ds)
interfaces_named all [] written = tt
interfaces_named all (tree.InterfaceDecl x ms ∷ ds) written = (record { name = written.0.0; tags = tags_named all ms written.0.2 }, interfaces_named all ds written.1)
interfaces_named all (tree.DefDecl x ps r m ∷ ds) written = interfaces_named all ds written.1

pub functions_named : (names : List InterfaceNames) (h : Heads) (n : ℕ) (ds : tree.Tree) → AllByRecursion IsDecl ds → AllByRecursion (λ f. IsName f.name) (functions_from names h n (definitions_of ds))
functions_named names h n [] written = tt
functions_named names h n (tree.InterfaceDecl x ms ∷ ds) written = functions_named names h n ds written.1
functions_named names h n (tree.DefDecl x ps r m ∷ ds) written = (written.0, functions_named names h (n + nodes_in m) ds written.1)
