-- A wrong value or an undeclared message isn't in a typed configuration.
use Rattle.std.proofs.Common.{◌≡◌, ℕ, true, false, nat_eq, List, [], ◌∷◌, map, Some, refl, sym, ap, ◌∙◌, subst, ⊎_elim}
use Rattle.std.specs.Prelude.{slice_get}
use Rattle.std.proofs.lemmas.Bool.{or_left, eq-eqb}
use Rattle.pat_semantics_spec.specs.Values.{Value, Const, Mailbox, Kind, Plain, MailboxOf, Env, value_at, ValueHasKind, ValuesHaveKinds, ValueFits, ValuesFit}
use Rattle.pat_semantics_spec.specs.Programs.{Program, Let, Node, function_at, tag_at, kind_of, is_free, is_among, option_list, KindAt, Function}
use Rattle.pat_semantics_spec.specs.WellFormed.{WellFormed}
use Rattle.pat_semantics_spec.specs.Configs.{Returned, Frame, Message}
use Rattle.pat_semantics_spec.specs.Steps.{thread_of}
use Rattle.pat_semantics_spec.specs.Faults.{IsIn, HasValue, IsAsDeclared}
use Rattle.pat_type_system_spec.specs.Types.{kind_of_type}
use Rattle.pat_type_system_spec.specs.Typings.{Typing, IsTyping}
use Rattle.pat_type_system_spec.specs.Holdings.{wanted, type_at}
use Rattle.pat_type_system_spec.specs.Typed.{ThreadFits, PartFits, FramesFit, MessageFits}
use Rattle.pat_type_system_laws.proofs.Nodes.{node_facts}
use Rattle.pat_type_system_laws.proofs.Named.{part_kind}
use Rattle.pat_safety_laws.proofs.Bound.{body_bound, body_among}
use Rattle.pat_safety_laws.proofs.Frames.{name_kind}

-- ---- values

-- a value that fits has the kind
pub fits_has : (interfaces : ℕ → ℕ) (v : Value) (k : Kind) → ValueFits interfaces v k → ValueHasKind v k
fits_has f (Const c) (Plain b) h = h
fits_has f (Mailbox a) (MailboxOf i) h = tt
fits_has f (Const c) (MailboxOf i) h = absurd h
fits_has f (Mailbox a) (Plain b) h = absurd h

pub all_have : (interfaces : ℕ → ℕ) (vs : List Value) (ks : List Kind) → ValuesFit interfaces vs ks → ValuesHaveKinds vs ks
all_have f [] [] h = tt
all_have f (v ∷ vs) (k ∷ ks) h = (fits_has f v k h.0, all_have f vs ks h.1)
all_have f [] (k ∷ ks) h = absurd h
all_have f (v ∷ vs) [] h = absurd h

pub part_has : (p : Program) (interfaces : ℕ → ℕ) (n : ℕ) (but : List ℕ) (env : Env) → PartFits p interfaces n but env → (x : ℕ) → is_free p x n ≡ true → is_among x but ≡ false → HasValue p n env x
part_has p f n but env part x free out =
    let v = part.values x free out in
    let k = part.kinds x v.0 v.1 in
    (v.0, k.0, v.1, k.1, fits_has f v.0 k.0 k.2)

pub frame_has : (p : Program) (y : Typing) (interfaces : ℕ → ℕ) (fs : List Frame) (f : Frame) → FramesFit p y interfaces fs → IsIn f fs → PartFits p interfaces f.body (option_list f.var) f.env
frame_has p y i [] f fits h = absurd h
frame_has p y i (g ∷ fs) f fits h =
    ⊎_elim (λ same. subst (λ (w : Frame). PartFits p i w.body (option_list w.var) w.env) same fits.1) (λ rest. frame_has p y i fs f fits.3 rest) h

-- a variable has one kind at a node
pub one_kind : (p : Program) (n x : ℕ) (j k : Kind) → KindAt p n x j → KindAt p n x k → j ≡ k
one_kind p n x j k (d, g, at, of, is) (d', g', at', of', is') =
    let node : d ≡ d' = let e = sym at ∙ at' in cc in
    let fun : g ≡ g' = let e = sym of ∙ ap (λ (w : Node). function_at p w.function) node ∙ of' in cc in
    let e : Some j ≡ Some k = sym is ∙ ap (λ (w : Function). slice_get w.vars x) fun ∙ is' in
    cc

-- a returned value has the kind of the name of the frame on top
pub returned_has : (p : Program) (y : Typing) (interfaces : ℕ → ℕ) (v : Value) (f : Frame) (fs : List Frame) → WellFormed p → IsTyping p y → ThreadFits p y interfaces (thread_of (Returned v) (f ∷ fs)) → (x : ℕ) (k : Kind) → f.var ≡ Some x → KindAt p f.body x k → ValueHasKind v k
returned_has p y i v f fs wf typing fits x k named kind =
    let n = fits.frames.0.0 in
    let m = fits.frames.0.1 in
    let at = fits.frames.0.2 in
    let core = Let f.var m f.body in
    let facts = node_facts p y n core wf typing at in
    let want : wanted p y (f ∷ fs) ≡ y.results m = ap (type_at y) (body_bound p n m f.body f.var wf at) in
    let value = subst (λ w. ValueFits i v (kind_of_type w)) want fits.control in
    let among : is_among x (option_list f.var) ≡ true = ap (λ w. is_among x (option_list w)) named ∙ or_left (nat_eq x x) false (eq-eqb x x refl) in
    let j = name_kind p facts.fits.function.vars (kind_of_type (y.results n)) f.var m f.body x facts.kinds among in
    let here : KindAt p f.body x j.0 = part_kind p n x j.0 core wf at f.body (body_among f.var m f.body) (facts.node, facts.fits.function, facts.there, facts.fits.of, j.1) in
    let typed_kind = (typing.nodes m j.2.0 j.2.1).kind in
    let of_j : ValueFits i v j.0 = subst (λ w. ValueFits i v w) (typed_kind ∙ j.2.2) value in
    fits_has i v k (subst (λ w. ValueFits i v w) (one_kind p f.body x j.0 k here kind) of_j)

-- ---- messages

-- where a part names a mailbox, it has the variable's interface
pub part_interface : (p : Program) (interfaces : ℕ → ℕ) (n : ℕ) (but : List ℕ) (env : Env) → PartFits p interfaces n but env → (x a i : ℕ) → value_at env x ≡ Some (Mailbox a) → KindAt p n x (MailboxOf i) → interfaces a ≡ i
part_interface p f n but env part x a i at kind =
    let k = part.kinds x (Mailbox a) at in
    subst (λ w. ValueFits f (Mailbox a) w) (one_kind p n x k.0 (MailboxOf i) k.1 kind) k.2

pub message_declared : (p : Program) (interfaces : ℕ → ℕ) (i : ℕ) (m : Message) → MessageFits p interfaces m → interfaces m.mailbox ≡ i → IsAsDeclared p i m
message_declared p f i m fits same =
    (fits.decl, ap (λ j. tag_at p j m.tag) (sym same) ∙ fits.declared, all_have f m.values (map kind_of fits.decl.payloads) fits.values)
