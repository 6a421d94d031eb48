-- What is read of a type, of an environment and of certificates is its text.
use Rattle.std.proofs.Common.{◌≡◌, ℕ, zero, suc, ◌==◌, Bool, true, false, List, [], ◌∷◌, ◌++◌, map, refl, sym, ap, ◌∙◌, subst, if◌then◌else◌}
use Rattle.std.specs.Prelude.{Option, Some, None, option_map, option_and_then, bytes_eq, slice_get, slice_index_or, codes}
use Rattle.std.specs.List.{flat_map}
use Rattle.std.specs.Fmt.{decimal}
use Rattle.std.proofs.lemmas.Bool.{eqb-true}
use Rattle.std.proofs.lemmas.Slice.Eq.{bytes_eq-Decides}
use Rattle.pat_words_spec.specs.Patterns.{Pat}
use Rattle.pat_semantics_spec.specs.Values.{Base, BaseUnit, BaseBool, BaseInt, BaseText}
use Rattle.pat_semantics_spec.specs.Programs.{Polarity, Sending, Receiving, Interface, Program}
use Rattle.pat_type_system_spec.specs.Types.{Usage, Second, Returnable, MailboxType, mailbox_type, TypeOf, BaseTerm, MailboxTerm}
use Rattle.pat_inclusion_spec.specs.Certificates.{Cert}
use Rattle.pat_type_schemes_spec.specs.NodeTypes.{Needs}
use Rattle.pat_derivation_spec.specs.Derivations.{ascends_from}
use Rattle.pat_texts_spec.specs.Numbers.{read_number}
use Rattle.pat_derivation_text_spec.specs.patterns.PatternText.{pat_text}
use Rattle.pat_derivation_text_spec.specs.patterns.PatternReading.{read_pattern}
use Rattle.pat_texts_spec.specs.Fronts.{behind}
use Rattle.pat_texts_spec.proofs.Choices.{taken, made, made_next}
use Rattle.pat_texts_spec.proofs.Decimals.{number_spelled}
use Rattle.pat_derivation_text_laws.proofs.Spelled.{pattern_spelled, behind_is}
use Rattle.pat_texts_spec.specs.Joined.{joined, cut, pieces, read_each, before}
use Rattle.pat_derivation_text_spec.specs.DerivationText.{tags_named, base_word, polarity_mark, mailbox_text, type_text, usage_word, named_text, needs_text, cert_text, certs_text}
use Rattle.pat_derivation_text_spec.specs.LineReading.{cut_polarity, found, mailbox_in, mailbox_of, read_mailbox, read_base, type_by, read_type, usage_by, cut_usage, used_mailbox, read_used, named_in, named_of, read_named, read_next, read_all, if_ascending, read_needs, read_cert, read_certs}
use Rattle.pat_derivation_text_laws.proofs.LinesSpelled.{cut_is, before_is, joined_pieces, some_piece, each_is, cert_is}

pub found_is : (x : List ℕ) (is : List Interface) (f : ℕ × List (List ℕ)) → found x is ≡ Some f → (slice_index_or (map (λ i. i.name) is) f.0 [] ≡ x) × (f.1 ≡ tags_named (slice_get is f.0))
found_is x [] f e = absurd cc
found_is x (i ∷ is) f e = by (bytes_eq i.name x) refl e (λ g h. found_is x is g h)
  where
    by : (t : Bool) → bytes_eq i.name x ≡ t → (if t then Some (zero, map (λ t. t.name) i.tags) else option_map (λ r. (suc r.0, r.1)) (found x is)) ≡ Some f → ((g : ℕ × List (List ℕ)) → found x is ≡ Some g → (slice_index_or (map (λ i. i.name) is) g.0 [] ≡ x) × (g.1 ≡ tags_named (slice_get is g.0))) → (slice_index_or (map (λ i. i.name) (i ∷ is)) f.0 [] ≡ x) × (f.1 ≡ tags_named (slice_get (i ∷ is) f.0))
    by true t e deeper =
        let own : ℕ × List (List ℕ) = (zero, map (λ t. t.name) i.tags) in
        let same : own ≡ f = cc in
        subst (λ f. (slice_index_or (map (λ i. i.name) (i ∷ is)) f.0 [] ≡ x) × (f.1 ≡ tags_named (slice_get (i ∷ is) f.0))) same ((bytes_eq-Decides i.name x).0 t, refl)
    by false t e deeper =
        let m = made (λ r. (suc r.0, r.1)) (found x is) f e in
        let d = deeper m.from m.there in
        subst (λ f. (slice_index_or (map (λ i. i.name) (i ∷ is)) f.0 [] ≡ x) × (f.1 ≡ tags_named (slice_get (i ∷ is) f.0))) m.is (d.0, d.1)

polarity_is : (bs : List ℕ) (r : List ℕ × Polarity × List ℕ) → cut_polarity bs ≡ Some r → bs ≡ r.0 ++ polarity_mark r.1 ∷ r.2
polarity_is [] r e = absurd cc
polarity_is (b ∷ bs) r e = first (b == 33) refl e (λ s h. polarity_is bs s h)
  where
    second : (t : Bool) → (b == 63) ≡ t → (if t then Some ([], Receiving, bs) else option_map (λ r. (b ∷ r.0, r.1, r.2)) (cut_polarity bs)) ≡ Some r → ((s : List ℕ × Polarity × List ℕ) → cut_polarity bs ≡ Some s → bs ≡ s.0 ++ polarity_mark s.1 ∷ s.2) → b ∷ bs ≡ r.0 ++ polarity_mark r.1 ∷ r.2
    second true t e deeper =
        let own : List ℕ × Polarity × List ℕ = ([], Receiving, bs) in
        let same : own ≡ r = cc in
        subst (λ r. b ∷ bs ≡ r.0 ++ polarity_mark r.1 ∷ r.2) same (ap (λ c. c ∷ bs) (eqb-true b 63 t))
    second false t e deeper =
        let m = made (λ r. (b ∷ r.0, r.1, r.2)) (cut_polarity bs) r e in
        subst (λ r. b ∷ bs ≡ r.0 ++ polarity_mark r.1 ∷ r.2) m.is (ap (λ l. b ∷ l) (deeper m.from m.there))

    first : (t : Bool) → (b == 33) ≡ t → (if t then Some ([], Sending, bs) else if b == 63 then Some ([], Receiving, bs) else option_map (λ r. (b ∷ r.0, r.1, r.2)) (cut_polarity bs)) ≡ Some r → ((s : List ℕ × Polarity × List ℕ) → cut_polarity bs ≡ Some s → bs ≡ s.0 ++ polarity_mark s.1 ∷ s.2) → b ∷ bs ≡ r.0 ++ polarity_mark r.1 ∷ r.2
    first true t e deeper =
        let own : List ℕ × Polarity × List ℕ = ([], Sending, bs) in
        let same : own ≡ r = cc in
        subst (λ r. b ∷ bs ≡ r.0 ++ polarity_mark r.1 ∷ r.2) same (ap (λ c. c ∷ bs) (eqb-true b 33 t))
    first false t e deeper = second (b == 63) refl e deeper

pub mailbox_is : (p : Program) (bytes : List ℕ) (m : ℕ × Polarity × Pat) → read_mailbox p bytes ≡ Some m → bytes ≡ mailbox_text p m.0 m.1 m.2
mailbox_is p bytes m e =
    let c = made_next (mailbox_of p) (cut_polarity bytes) m e in
    let r = c.from in
    let g = made_next (mailbox_in r.1 r.2) (found r.0 p.interfaces) m c.is in
    let f = g.from in
    let h = made (λ q. (f.0, r.1, q)) (read_pattern f.1 r.2) m g.is in
    let k = found_is r.0 p.interfaces f g.there in
    let q = pattern_spelled f.1 r.2 h.from h.there in
    subst (λ m. bytes ≡ mailbox_text p m.0 m.1 m.2) h.is
    (polarity_is bytes r c.there ∙ ap (λ l. l ++ polarity_mark r.1 ∷ r.2) (sym k.0)
    ∙ ap (λ l. slice_index_or (map (λ i. i.name) p.interfaces) f.0 [] ++ polarity_mark r.1 ∷ l) (q.0 ∙ ap (λ ts. pat_text ts h.from) k.1))

base_is : (bytes : List ℕ) (b : Base) → read_base bytes ≡ Some b → bytes ≡ base_word b
base_is bytes b e = first (bytes_eq bytes (codes "Unit")) refl e
  where
    fourth : (t : Bool) → bytes_eq bytes (codes "String") ≡ t → (if t then Some BaseText else None) ≡ Some b → bytes ≡ base_word b
    fourth true t e = let same : BaseText ≡ b = cc in subst (λ b. bytes ≡ base_word b) same ((bytes_eq-Decides bytes (codes "String")).0 t)
    fourth false t e = absurd cc

    third : (t : Bool) → bytes_eq bytes (codes "Int") ≡ t → (if t then Some BaseInt else if bytes_eq bytes (codes "String") then Some BaseText else None) ≡ Some b → bytes ≡ base_word b
    third true t e = let same : BaseInt ≡ b = cc in subst (λ b. bytes ≡ base_word b) same ((bytes_eq-Decides bytes (codes "Int")).0 t)
    third false t e = fourth (bytes_eq bytes (codes "String")) refl e

    second : (t : Bool) → bytes_eq bytes (codes "Bool") ≡ t → (if t then Some BaseBool else if bytes_eq bytes (codes "Int") then Some BaseInt else if bytes_eq bytes (codes "String") then Some BaseText else None) ≡ Some b → bytes ≡ base_word b
    second true t e = let same : BaseBool ≡ b = cc in subst (λ b. bytes ≡ base_word b) same ((bytes_eq-Decides bytes (codes "Bool")).0 t)
    second false t e = third (bytes_eq bytes (codes "Int")) refl e

    first : (t : Bool) → bytes_eq bytes (codes "Unit") ≡ t → (if t then Some BaseUnit else if bytes_eq bytes (codes "Bool") then Some BaseBool else if bytes_eq bytes (codes "Int") then Some BaseInt else if bytes_eq bytes (codes "String") then Some BaseText else None) ≡ Some b → bytes ≡ base_word b
    first true t e = let same : BaseUnit ≡ b = cc in subst (λ b. bytes ≡ base_word b) same ((bytes_eq-Decides bytes (codes "Unit")).0 t)
    first false t e = second (bytes_eq bytes (codes "Bool")) refl e

pub type_is : (p : Program) (bytes : List ℕ) (t : TypeOf) → read_type p bytes ≡ Some t → bytes ≡ type_text p t
type_is p bytes t e = by (read_base bytes) refl e
  where
    by : (o : Option Base) → read_base bytes ≡ o → type_by p bytes o ≡ Some t → bytes ≡ type_text p t
    by (Some b) k e = let same : BaseTerm b ≡ t = cc in subst (λ t. bytes ≡ type_text p t) same (base_is bytes b k)
    by None k e =
        let m = made (λ r. MailboxTerm r.0 r.1 r.2) (read_mailbox p bytes) t e in
        subst (λ t. bytes ≡ type_text p t) m.is (mailbox_is p bytes m.from m.there)

usage_is : (bytes : List ℕ) (r : List ℕ × Usage) → cut_usage bytes ≡ Some r → bytes ≡ r.0 ++ usage_word r.1
usage_is bytes r e = by (before (codes " sec") bytes) refl e
  where
    by : (o : Option (List ℕ)) → before (codes " sec") bytes ≡ o → usage_by bytes o ≡ Some r → bytes ≡ r.0 ++ usage_word r.1
    by (Some front) k e =
        let own : List ℕ × Usage = (front, Second) in
        let same : own ≡ r = cc in
        subst (λ r. bytes ≡ r.0 ++ usage_word r.1) same (before_is (codes " sec") bytes front k)
    by None k e =
        let m = made (λ front. (front, Returnable)) (before (codes " ret") bytes) r e in
        subst (λ r. bytes ≡ r.0 ++ usage_word r.1) m.is (before_is (codes " ret") bytes m.from m.there)

used_is : (p : Program) (bytes : List ℕ) (a : MailboxType) → read_used p bytes ≡ Some a → bytes ≡ 32 ∷ (mailbox_text p a.interface a.polarity a.pattern ++ usage_word a.usage)
used_is p bytes a e =
    let m = made_next (λ more. option_and_then (used_mailbox p) (cut_usage more)) (behind (32 ∷ []) bytes) a e in
    let n = made_next (used_mailbox p) (cut_usage m.from) a m.is in
    let o = made (λ k. mailbox_type k.0 k.1 k.2 n.from.1) (read_mailbox p n.from.0) a n.is in
    subst (λ a. bytes ≡ 32 ∷ (mailbox_text p a.interface a.polarity a.pattern ++ usage_word a.usage)) o.is
    (behind_is [] (32 ∷ []) bytes m.from m.there ∙ ap (λ l. 32 ∷ l) (usage_is m.from n.from n.there ∙ ap (λ l. l ++ usage_word n.from.1) (mailbox_is p n.from.0 o.from o.there)))

pub named_is : (p : Program) (bytes : List ℕ) (x : ℕ × MailboxType) → read_named p bytes ≡ Some x → bytes ≡ named_text p x
named_is p bytes x e =
    let m = made_next (λ more. option_and_then (named_of p) (cut 58 more)) (behind (118 ∷ []) bytes) x e in
    let n = made_next (named_of p) (cut 58 m.from) x m.is in
    let r = n.from in
    let o = made_next (named_in p r.1) (read_number r.0) x n.is in
    let u = made (λ a. (o.from, a)) (read_used p r.1) x o.is in
    subst (λ x. bytes ≡ named_text p x) u.is
    (behind_is [] (118 ∷ []) bytes m.from m.there ∙ ap (λ l. 118 ∷ l) (cut_is 58 m.from r n.there ∙ ap (λ l. l ++ 58 ∷ r.1) (number_spelled r.0 o.from o.there).0 ∙ ap (λ l. decimal o.from ++ 58 ∷ l) (used_is p r.1 u.from u.there)))

next_is : (p : Program) (bytes : List ℕ) (x : ℕ × MailboxType) → read_next p bytes ≡ Some x → bytes ≡ 32 ∷ named_text p x
next_is p bytes x e =
    let m = made_next (read_named p) (behind (32 ∷ []) bytes) x e in
    behind_is [] (32 ∷ []) bytes m.from m.there ∙ ap (λ l. 32 ∷ l) (named_is p m.from x m.is)

all_is : (p : Program) (xs : List (List ℕ)) (es : Needs) → read_all p xs ≡ Some es → joined 44 xs ≡ needs_text p es
all_is p [] es e = let same : [] ≡ es = cc in subst (λ l. [] ≡ needs_text p l) same refl
all_is p (x ∷ xs) es e =
    let m = made_next (λ a. option_map (λ more. a ∷ more) (read_each (read_next p) xs)) (read_named p x) es e in
    let n = made (λ more. m.from ∷ more) (read_each (read_next p) xs) es m.is in
    subst (λ l. joined 44 (x ∷ xs) ≡ needs_text p l) n.is
    (ap (λ y. joined 44 (y ∷ xs)) (named_is p x m.from m.there) ∙ ap (λ ys. joined 44 (named_text p m.from ∷ ys)) (each_is (read_next p) (λ f. 32 ∷ named_text p f) (next_is p) xs n.from n.there))

pub needs_is : (p : Program) (bytes : List ℕ) (es : Needs) → read_needs p bytes ≡ Some es → bytes ≡ needs_text p es
needs_is p [] es e = let same : [] ≡ es = cc in subst (λ l. [] ≡ needs_text p l) same refl
needs_is p (b ∷ bs) es e =
    let m = made_next if_ascending (read_all p (pieces 44 (b ∷ bs))) es e in
    let k = taken (ascends_from 0 m.from) (Some m.from) es m.is in
    let same : m.from ≡ es = cc in
    sym (joined_pieces 44 (b ∷ bs)) ∙ all_is p (pieces 44 (b ∷ bs)) m.from m.there ∙ ap (needs_text p) same

pub spaced : (certs : List Cert) → flat_map (λ y. 32 ∷ y) (map cert_text certs) ≡ certs_text certs
spaced [] = refl
spaced (c ∷ cs) = ap (λ l. (32 ∷ cert_text c) ++ l) (spaced cs)

pub certs_are : (bytes : List ℕ) (certs : List Cert) → read_certs bytes ≡ Some certs → bytes ≡ certs_text certs
certs_are [] certs e = let same : [] ≡ certs = cc in subst (λ l. [] ≡ certs_text l) same refl
certs_are (b ∷ bs) certs e =
    let m = made_next (λ more. read_each read_cert (pieces 32 more)) (behind (32 ∷ []) (b ∷ bs)) certs e in
    let k = each_is read_cert cert_text cert_is (pieces 32 m.from) certs m.is in
    let n = some_piece 32 m.from in
    behind_is [] (32 ∷ []) (b ∷ bs) m.from m.there ∙ ap (λ l. 32 ∷ l) (sym (joined_pieces 32 m.from)) ∙ by certs (pieces 32 m.from) k n.front n.others n.is
  where
    by : (cs : List Cert) (xs : List (List ℕ)) → xs ≡ map cert_text cs → (x : List ℕ) (more : List (List ℕ)) → xs ≡ x ∷ more → 32 ∷ joined 32 xs ≡ certs_text cs
    by [] xs k x more n = absurd cc
    by (c ∷ cs) xs k x more n = ap (λ l. 32 ∷ joined 32 l) k ∙ ap (λ l. (32 ∷ cert_text c) ++ l) (spaced cs)
