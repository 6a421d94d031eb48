-- What is a text by the grammar is read as it, and so tokens spell at most one tree.
use Rattle.std.proofs.Common.{◌≡◌, ℕ, ◌+◌, Bool, true, false, List, [], ◌∷◌, ◌++◌, Option, Some, None, Ok, Err, refl, sym, ap, ◌∙◌}
use Rattle.std.specs.Prelude.{not}
use Rattle.pat_lexer_spec.specs.Marks as mark
use Rattle.pat_lexer_spec.specs.Tokens.{Token, Name, Integer, Str, Word, Mark}
use Rattle.pat_semantics_spec.specs.Values.{Base}
use Rattle.pat_semantics_spec.specs.Programs.{Polarity, Sending, Receiving}
use Rattle.pat_parser_spec.specs.Trees as tree
use Rattle.pat_parser_spec.specs.Trees.{span, pattern_operators}
use Rattle.pat_parser_spec.specs.Items.{At, Item, place_of, named, Limits, base_named, polarity_of}
use Rattle.pat_parser_spec.specs.Grammar.{Level, Whole, Pattern, Separated, one, more, Optional, none, some, WrittenType, base, mailbox, short, Message, message, Param, param, Decls, no_decl, interface, function, Spells}
use Rattle.pat_parser_spec.specs.Grammar as grammar
use Rattle.pat_parser_spec.specs.Machine.{Before, none_before, whole_in, Interfacing, with_message, Defining, with_param, InterfaceName, MessageName, FunctionName, ParamName, Frame, AtType, AtPattern, AtBlock, InMessage, InParam, InResult, InTyped, InDef, AtDecl, WantName, GotName, FirstPayload, AfterMessage, FirstParam, AfterParams, WantType, AfterTypeName, AfterPolarity, HaveType, WantPattern, HavePattern, Start, State, state, Next, settle, type_step, type_comma, type_close, type_open, base_step, want_type, is_payload, polarized, after_type_name, step, run, begin, finish}
use Rattle.pat_parser_laws.proofs.Runs.{run_step, open_run}
use Rattle.pat_parser_laws.proofs.CompletePattern.{patterns}
use Rattle.pat_parser_laws.proofs.CompleteTerm.{terms, closed}

abbrev pub ends_type : Token → Bool
ends_type (Mark mark.Comma) = true
ends_type (Mark mark.RoundClose) = true
ends_type (Mark mark.CurlyOpen) = true
ends_type _ = false

-- the state goes on as one behind the type does
abbrev pub BehindType : Limits → State → List Frame → ℕ → tree.WrittenType → Type 0
BehindType lim y fs o a = (c : Token) (w : At) → ends_type c ≡ true → step lim y (c, w) ≡ settle lim w.free (type_step fs o a c (place_of w))

base_is : (fs : List Frame) (o : ℕ) (c : Token) (w : tree.Span) (b : Base) → base_named c ≡ Some b → want_type fs o c w ≡ base_step fs o (base_named c) w
base_is fs o (Name x) w b h = absurd cc
base_is fs o _ w b h = refl

polarity_is : (fs : List Frame) (o : ℕ) (x : tree.Name) (c : Token) (w : tree.Span) (q : Polarity) → polarity_of c ≡ Some q → after_type_name fs o x c w ≡ polarized (is_payload fs) fs o x q w
polarity_is fs o x (Mark mark.Bang) w q h = let e : Sending ≡ q = cc in ap (λ (r : Polarity). polarized (is_payload fs) fs o x r w) e
polarity_is fs o x (Mark mark.Question) w q h = let e : Receiving ≡ q = cc in ap (λ (r : Polarity). polarized (is_payload fs) fs o x r w) e
polarity_is fs o x _ w q h = absurd cc

-- where a pattern begins, no type ends
abbrev begins_pattern : List Item → Bool
begins_pattern [] = false
begins_pattern ((Mark mark.Comma, w) ∷ ts) = false
begins_pattern ((Mark mark.RoundClose, w) ∷ ts) = false
begins_pattern ((Mark mark.CurlyOpen, w) ∷ ts) = false
begins_pattern ((_, w) ∷ ts) = true

pattern_begins : {lim : Limits} {o k t : ℕ} {l : Level} {ts us : List Item} {p : tree.Pattern} → Pattern lim o k l ts p t us → begins_pattern ts ≡ true
pattern_begins (grammar.Pattern.number is) = refl
pattern_begins grammar.Pattern.tag = refl
pattern_begins (grammar.Pattern.bracket room d) = refl
pattern_begins (grammar.Pattern.star room d) = refl
pattern_begins (grammar.Pattern.factor d) = pattern_begins d
pattern_begins (grammar.Pattern.dot d room f) = pattern_begins d
pattern_begins (grammar.Pattern.product d) = pattern_begins d
pattern_begins (grammar.Pattern.plus d room f) = pattern_begins d

polarity_run : (lim : Limits) (fs : List Frame) (o : ℕ) (x : tree.Name) (q : Polarity) (t : ℕ) (ts : List Item) → begins_pattern ts ≡ true → run lim (state (AfterPolarity x q t) fs o 0 0) ts ≡ run lim (state (WantPattern none_before) (AtPattern (InTyped x q) ∷ fs) o 0 0) ts
polarity_run lim fs o x q t [] h = absurd cc
polarity_run lim fs o x q t ((Mark mark.Comma, w) ∷ ts) h = absurd cc
polarity_run lim fs o x q t ((Mark mark.RoundClose, w) ∷ ts) h = absurd cc
polarity_run lim fs o x q t ((Mark mark.CurlyOpen, w) ∷ ts) h = absurd cc
polarity_run lim fs o x q t ((_, w) ∷ ts) h = refl

polarized_run : (lim : Limits) (b : Bool) (fs : List Frame) (o : ℕ) (x : tree.Name) (c : Token) (q : Polarity) (w : At) (ts : List Item) → polarity_of c ≡ Some q → is_payload fs ≡ b → begins_pattern ts ≡ true → run lim (state (AfterTypeName x) fs o 0 0) ((c, w) ∷ ts) ≡ run lim (state (WantPattern none_before) (AtPattern (InTyped x q) ∷ fs) o 0 0) ts
polarized_run lim true fs o x c q w ts is h g = run_step lim (state (AfterTypeName x) fs o 0 0) _ (c, w) ts (ap (settle lim w.free) (polarity_is fs o x c (place_of w) q is ∙ ap (λ (b : Bool). polarized b fs o x q (place_of w)) h))
polarized_run lim false fs o x c q w ts is h g = run_step lim (state (AfterTypeName x) fs o 0 0) (state (AfterPolarity x q w.to) fs o 0 0) (c, w) ts (ap (settle lim w.free) (polarity_is fs o x c (place_of w) q is ∙ ap (λ (b : Bool). polarized b fs o x q (place_of w)) h)) ∙ polarity_run lim fs o x q w.to ts g

pub base_goes : (lim : Limits) (fs : List Frame) (o : ℕ) (a : tree.WrittenType) → BehindType lim (state (HaveType a) fs o 0 0) fs o a
base_goes lim fs o a c w h = refl

pub short_goes : (lim : Limits) (fs : List Frame) (o : ℕ) (x : tree.Name) (q : Polarity) (t : ℕ) → BehindType lim (state (AfterPolarity x q t) fs o 0 0) fs o (tree.MailboxType x q None (span x.span.from t))
short_goes lim fs o x q t (Mark mark.Comma) w h = refl
short_goes lim fs o x q t (Mark mark.RoundClose) w h = refl
short_goes lim fs o x q t (Mark mark.CurlyOpen) w h = refl
short_goes lim fs o x q t _ w h = absurd cc

pub pattern_goes : (lim : Limits) (fs : List Frame) (o k s : ℕ) (x : tree.Name) (q : Polarity) (p : tree.Pattern) (b : Before) (y : tree.Pattern) (t : ℕ) → whole_in b y ≡ p → BehindType lim (state (HavePattern b y t) (AtPattern (InTyped x q) ∷ fs) o k s) fs o (tree.MailboxType x q (Some p) (span x.span.from t))
pattern_goes lim fs o k s x q p b y t is (Mark mark.Comma) w h = ap (λ (v : tree.Pattern). settle lim w.free (type_comma fs o (tree.MailboxType x q (Some v) (span x.span.from t)))) is
pattern_goes lim fs o k s x q p b y t is (Mark mark.RoundClose) w h = ap (λ (v : tree.Pattern). settle lim w.free (type_close fs (tree.MailboxType x q (Some v) (span x.span.from t)))) is
pattern_goes lim fs o k s x q p b y t is (Mark mark.CurlyOpen) w h = ap (λ (v : tree.Pattern). settle lim w.free (type_open fs o (tree.MailboxType x q (Some v) (span x.span.from t)))) is
pattern_goes lim fs o k s x q p b y t is _ w h = absurd cc

pub types : (lim : Limits) {o : ℕ} {b : Bool} {ts us : List Item} {a : tree.WrittenType} → WrittenType lim o b ts a us → (fs : List Frame) → is_payload fs ≡ b → (y : State) × (run lim (state WantType fs o 0 0) ts ≡ run lim y us) × BehindType lim y fs o a
types lim {o = o} (base {c = c} {b = b} {w = w} {us = us} is) fs h =
    let a = tree.BaseType b (place_of w) in
    (state (HaveType a) fs o 0 0, run_step lim (state WantType fs o 0 0) (state (HaveType a) fs o 0 0) (c, w) us (ap (settle lim w.free) (base_is fs o c (place_of w) b is ∙ ap (λ (v : Option Base). base_step fs o v (place_of w)) is)), base_goes lim fs o a)
types lim {o = o} {b = b} (mailbox {x = x} {c = c} {q = q} {t = t} {w = w} {v = v} {ts = ts} {p = p} is d) fs h =
    let r = patterns lim d (AtPattern (InTyped (named x w) q) ∷ fs) 0 in (
      state (HavePattern r.0 r.1 t) (AtPattern (InTyped (named x w) q) ∷ fs) o (0 + pattern_operators p) 0,
      polarized_run lim b fs o (named x w) c q v ts is h (pattern_begins d) ∙ r.2,
      pattern_goes lim fs o (0 + pattern_operators p) 0 (named x w) q p r.0 r.1 t r.3,
    )
types lim {o = o} (short {x = x} {c = c} {q = q} {w = w} {v = v} {us = us} omitted is) fs h =
    let y = state (AfterPolarity (named x w) q v.to) fs o 0 0 in
    (y, run_step lim (state (AfterTypeName (named x w)) fs o 0 0) y (c, v) us (ap (settle lim v.free) (polarity_is fs o (named x w) c (place_of v) q is ∙ ap (λ (b : Bool). polarized b fs o (named x w) q (place_of v)) (h ∙ omitted))), short_goes lim fs o (named x w) q v.to)

-- ---- payloads and messages

abbrev begins_type : List Item → Bool
begins_type [] = false
begins_type ((Mark x, w) ∷ ts) = false
begins_type ((_, w) ∷ ts) = true

base_begins : (c : Token) (w : At) (us : List Item) (b : Base) → base_named c ≡ Some b → begins_type ((c, w) ∷ us) ≡ true
base_begins (Mark x) w us b h = absurd cc
base_begins (Name x) w us b h = refl
base_begins (Integer x) w us b h = refl
base_begins (Str x) w us b h = refl
base_begins (Word x) w us b h = refl

type_begins : {lim : Limits} {o : ℕ} {b : Bool} {ts us : List Item} {a : tree.WrittenType} → WrittenType lim o b ts a us → begins_type ts ≡ true
type_begins (base {c = c} {b = b} {w = w} {us = us} is) = base_begins c w us b is
type_begins (mailbox is d) = refl
type_begins (short omitted is) = refl

payload_run : (lim : Limits) (fs : List Frame) (o : ℕ) (ts : List Item) → begins_type ts ≡ true → run lim (state FirstPayload fs o 0 0) ts ≡ run lim (state WantType fs o 0 0) ts
payload_run lim fs o [] h = absurd cc
payload_run lim fs o ((Mark x, w) ∷ ts) h = absurd cc
payload_run lim fs o ((Name x, w) ∷ ts) h = refl
payload_run lim fs o ((Integer x, w) ∷ ts) h = refl
payload_run lim fs o ((Str x, w) ∷ ts) h = refl
payload_run lim fs o ((Word x, w) ∷ ts) h = refl

payloads_run : (lim : Limits) (i : Interfacing) (x : tree.Name) (fs : List Frame) {o : ℕ} {ts us : List Item} {as1 : List tree.WrittenType} → Separated (WrittenType lim o true) ts as1 us
    → (ps : List tree.WrittenType) × (a : tree.WrittenType) × (y : State) × (run lim (state FirstPayload (AtType (InMessage i x []) ∷ fs) o 0 0) ts ≡ run lim y us) × BehindType lim y (AtType (InMessage i x ps) ∷ fs) o a × (ps ++ a ∷ [] ≡ as1)
payloads_run lim i x fs {o = o} {ts = ts} (one {a = a} d) =
    let r = types lim d (AtType (InMessage i x []) ∷ fs) refl in
    ([], a, r.0, payload_run lim (AtType (InMessage i x []) ∷ fs) o ts (type_begins d) ∙ r.1, r.2, refl)
payloads_run lim i x fs {o = o} (more {w = w} {us = us} {xs = ps} {a = a} d f) =
    let h = payloads_run lim i x fs d in
    let r = types lim f (AtType (InMessage i x ps) ∷ fs) refl in
    let y = state WantType (AtType (InMessage i x ps) ∷ fs) o 0 0 in
    (ps, a, r.0, h.3 ∙ run_step lim h.2 y (Mark mark.Comma, w) us (h.4 (Mark mark.Comma) w refl ∙ ap (λ (q : List tree.WrittenType). Ok (state WantType (AtType (InMessage i x q) ∷ fs) o 0 0)) h.5) ∙ r.1, r.2, refl)

payloads_close : (lim : Limits) (i : Interfacing) (x : tree.Name) (fs : List Frame) {o : ℕ} {ts us : List Item} {ps : List tree.WrittenType} (z : At) → Optional (WrittenType lim o true) ts ps ((Mark mark.RoundClose, z) ∷ us)
    → run lim (state FirstPayload (AtType (InMessage i x []) ∷ fs) o 0 0) ts ≡ run lim (state (AfterMessage (with_message i x ps)) fs 1 0 0) us
payloads_close lim i x fs z none = refl
payloads_close lim i x fs {us = us} {ps = ps} z (some d) =
    let h = payloads_run lim i x fs d in
    h.3 ∙ run_step lim h.2 (state (AfterMessage (with_message i x ps)) fs 1 0 0) (Mark mark.RoundClose, z) us (h.4 (Mark mark.RoundClose) z refl ∙ ap (λ (q : List tree.WrittenType). Ok (state (AfterMessage (with_message i x q)) fs 1 0 0)) h.5)

message_run : (lim : Limits) (i : Interfacing) (fs : List Frame) {ts us : List Item} {m : tree.Message} → Message lim ts m us
    → run lim (state (WantName (MessageName i)) fs 1 0 0) ts ≡ run lim (state (AfterMessage (with_message i m.name m.payloads)) fs 1 0 0) us
message_run lim i fs (message {x = x} {w = w} {v = v} {z = z} {ts = ts} {us = us} room d) =
    open_run lim (state (GotName (MessageName i) (named x w)) fs 1 0 0) (state FirstPayload (AtType (InMessage i (named x w) []) ∷ fs) 2 0 0) (Mark mark.RoundOpen, v) v 1 0 ts refl room ∙ payloads_close lim i (named x w) fs z d

abbrev pub interfacing : List tree.Decl → tree.Name → List tree.Message → Interfacing
interfacing ds x ms = record { decls = ds; name = x; messages = ms }

messages_run : (lim : Limits) (ds : List tree.Decl) (x : tree.Name) (fs : List Frame) {ts us : List Item} {ms : List tree.Message} → Separated (Message lim) ts ms us
    → run lim (state (WantName (MessageName (interfacing ds x []))) fs 1 0 0) ts ≡ run lim (state (AfterMessage (interfacing ds x ms)) fs 1 0 0) us
messages_run lim ds x fs (one d) = message_run lim (interfacing ds x []) fs d
messages_run lim ds x fs (more {w = w} {us = us} {xs = ms} d f) =
    messages_run lim ds x fs d ∙ run_step lim (state (AfterMessage (interfacing ds x ms)) fs 1 0 0) (state (WantName (MessageName (interfacing ds x ms))) fs 1 0 0) (Mark mark.Comma, w) us refl ∙ message_run lim (interfacing ds x ms) fs f

-- ---- parameters and declarations

abbrev pub defining : List tree.Decl → tree.Name → List tree.Param → Defining
defining ds x ps = record { decls = ds; name = x; params = ps }

params_run : (lim : Limits) (ds : List tree.Decl) (x : tree.Name) (fs : List Frame) {ts us : List Item} {ps : List tree.Param} → Separated (Param lim) ts ps us
    → (qs : List tree.Param) × (n : tree.Name) × (a : tree.WrittenType) × (y : State) × (run lim (state (FirstParam (defining ds x [])) fs 1 0 0) ts ≡ run lim y us) × BehindType lim y (AtType (InParam (defining ds x qs) n) ∷ fs) 1 a × (with_param (defining ds x qs) n a ≡ defining ds x ps)
params_run lim ds x fs (one (param {x = n} {w = w} {c = c} {ts = ts} {us = us} {a = a} d)) =
    let r = types lim d (AtType (InParam (defining ds x []) (named n w)) ∷ fs) refl in
    ([], named n w, a, r.0, r.1, r.2, refl)
params_run lim ds x fs (more {w = v} {xs = ps} d (param {x = n} {w = w} {c = c} {ts = ts} {us = us} {a = a} f)) =
    let h = params_run lim ds x fs d in
    let r = types lim f (AtType (InParam (defining ds x ps) (named n w)) ∷ fs) refl in
    let y = state (WantName (ParamName (defining ds x ps))) fs 1 0 0 in
    (ps, named n w, a, r.0, h.4 ∙ run_step lim h.3 y (Mark mark.Comma, v) ((Name n, w) ∷ (Mark mark.Colon, c) ∷ ts) (h.5 (Mark mark.Comma) v refl ∙ ap (λ (q : Defining). Ok (state (WantName (ParamName q)) fs 1 0 0)) h.6) ∙ r.1, r.2, refl)

params_close : (lim : Limits) (ds : List tree.Decl) (x : tree.Name) (fs : List Frame) {ts us : List Item} {ps : List tree.Param} (z : At) → Optional (Param lim) ts ps ((Mark mark.RoundClose, z) ∷ us)
    → run lim (state (FirstParam (defining ds x [])) fs 1 0 0) ts ≡ run lim (state (AfterParams (defining ds x ps)) fs 0 0 0) us
params_close lim ds x fs z none = refl
params_close lim ds x fs {us = us} {ps = ps} z (some d) =
    let h = params_run lim ds x fs d in
    h.4 ∙ run_step lim h.3 (state (AfterParams (defining ds x ps)) fs 0 0 0) (Mark mark.RoundClose, z) us (h.5 (Mark mark.RoundClose) z refl ∙ ap (λ (q : Defining). Ok (state (AfterParams q) fs 0 0 0)) h.6)

pub decls : (lim : Limits) {b : Bool} {ts us : List Item} {ds : List tree.Decl} → Decls lim b ts ds us → run lim begin ts ≡ run lim (state (AtDecl (not b) ds) [] 0 0 0) us
decls lim no_decl = refl
decls lim (interface {b = b} {x = x} {w = w} {n = n} {v = v} {z = z} {us = us} {vs = vs} {ds = ds} {xs = ms} d room e) =
    decls lim d ∙ open_run lim (state (GotName (InterfaceName ds) (named x n)) [] 0 0 0) (state (WantName (MessageName (interfacing ds (named x n) []))) [] 1 0 0) (Mark mark.CurlyOpen, v) v 0 0 us refl room
    ∙ messages_run lim ds (named x n) [] e
decls lim (function {b = b} {x = x} {w = w} {n = n} {v = v} {z = z} {c = c} {d = q} {e = e} {us = us} {vs = vs} {xs = xs} {ys = ys} {ds = ds} {ps = ps} {r = r} {m = m} d room i t more_room body) =
    let h = defining ds (named x n) ps in
    let y = types lim t (AtType (InResult h) ∷ []) refl in
    let gs = AtBlock (InDef h r) ∷ [] in
    decls lim d ∙ open_run lim (state (GotName (FunctionName ds) (named x n)) [] 0 0 0) (state (FirstParam (defining ds (named x n) [])) [] 1 0 0) (Mark mark.RoundOpen, v) v 0 0 us refl room
    ∙ params_close lim ds (named x n) [] z i
    ∙ y.1 ∙ open_run lim y.0 (state (Start true) gs 1 0 0) (Mark mark.CurlyOpen, q) q 0 0 xs (y.2 (Mark mark.CurlyOpen) q refl) more_room
    ∙ closed lim e (state (AtDecl false (ds ++ tree.DefDecl (named x n) ps r m ∷ [])) [] 0 0 0) (terms lim body gs refl) refl

-- the tokens are a text, and this is its tree
pub record Parses (lim : Limits) (ts : List Item) (ds : tree.Tree) : Type 0 where
  pub after : State
  pub runs : run lim begin ts ≡ Ok after
  pub tree : finish after ≡ Some ds

pub spelled_parses : (lim : Limits) (ts : List Item) (ds : tree.Tree) → Spells lim ts ds → Parses lim ts ds
spelled_parses lim ts ds d = record { after = state (AtDecl false ds) [] 0 0 0; runs = decls lim d; tree = refl }

abbrev finish_of : Next → Option tree.Tree
finish_of (Ok x) = finish x
finish_of (Err e) = None

some_is : (m n : tree.Tree) → Some m ≡ Some n → m ≡ n
some_is m n h = cc

pub one_tree : (lim : Limits) (ts : List Item) (m n : tree.Tree) → Spells lim ts m → Spells lim ts n → m ≡ n
one_tree lim ts m n a b =
    let p = spelled_parses lim ts m a in
    let q = spelled_parses lim ts n b in
    some_is m n (sym p.tree ∙ ap finish_of (sym p.runs ∙ q.runs) ∙ q.tree)
