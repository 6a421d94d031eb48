-- Each line of a checkpoint is read as what it is made of.
use Rattle.std.proofs.Common.{◌≡◌, ℕ, ◌<◌, ◌==◌, Bool, true, false, List, [], ◌∷◌, ◌++◌, length, refl, ap, ◌∙◌, arith, append-nil, append_assoc}
use Rattle.std.specs.Prelude.{Option, Some, None, option_map, option_and_then, nat_lt, not, ◌&&◌, ◌||◌, codes, slice_index_or}
use Rattle.std.specs.List.{list_all}
use Rattle.std.specs.Fmt.{decimal}
use Rattle.std.proofs.lemmas.Bool.{and_parts, ltb-true}
use Rattle.pat_semantics_spec.specs.Values.{Env}
use Rattle.pat_semantics_spec.specs.Programs.{Program}
use Rattle.pat_semantics_spec.specs.Configs.{Control, Running, Returned, Message}
use Rattle.pat_inclusion_spec.specs.Certificates.{Cert}
use Rattle.pat_texts_spec.specs.Numbers.{is_number, read_number}
use Rattle.pat_derivation_text_spec.specs.patterns.PatternText.{is_mark, is_plain_name}
use Rattle.pat_texts_spec.proofs.Choices.{passed, skipped, negated}
use Rattle.pat_texts_spec.proofs.Decimals.{number_read}
use Rattle.pat_texts_spec.specs.Joined.{cut}
use Rattle.pat_derivation_text_spec.specs.DerivationText.{interface_name, tag_names, cert_text}
use Rattle.pat_derivation_text_spec.specs.LineReading.{read_cert}
use Rattle.pat_texts_spec.proofs.CutAgain.{lacks, cut_at, before_at, behind_at, all_weaker, all_append, lacks_lower}
use Rattle.pat_derivation_text_laws.proofs.CertsRead.{number_within, cert_read, cert_within}
use Rattle.pat_derivation_text_laws.proofs.TypesRead.{NamesFit, name_inner, apart_space, apart_inner, inner_newline}
use Rattle.pat_checkpoint_spec.specs.text.Outside.{Outside, cut_outside}
use Rattle.pat_checkpoint_spec.specs.text.ValueText.{value_text, values_text, env_text, is_value}
use Rattle.pat_checkpoint_spec.specs.text.ValueReading.{read_values}
use Rattle.pat_checkpoint_spec.specs.text.Lines.{MailboxLine, FrameLine, ThreadLine, Lines}
use Rattle.pat_checkpoint_spec.specs.text.CheckpointText.{cert_end, next_text, mailbox_text, interface_in, tag_name, message_text, control_text, thread_text, name_text, frame_text}
use Rattle.pat_checkpoint_spec.specs.text.LineReading.{read_cert_end, with_cert, lines_with, next_messages, next_mailboxes, next_threads, read_next, mailbox_with, mailbox_named, mailbox_of, read_mailbox, tag_number, tag_of, message_with, message_tagged, message_in, message_of, read_message, node_number, read_node, bound_in, read_bound, running_at, running_of, returned_of, read_returned, control_by, read_control, thread_with, thread_of, read_thread, read_name, frame_at, frame_in, frame_of, read_frame}
use Rattle.pat_checkpoint_laws.specs.text.Readable.{is_env, is_cert, is_node, is_mailbox_line, has_tag, is_message_line, is_control, is_name, is_frame_line, is_thread_line}
use Rattle.pat_checkpoint_laws.proofs.OutsideCuts.{stays, cut_at as cut_outside_at, not_cut}
use Rattle.pat_checkpoint_laws.proofs.ValuesRead.{Space, is_inline, number_inline, value_stays, value_inline, value_read, values_read, values_inline, env_read, env_stays, env_inline}

-- ---- numbers and certificates

number_ahead : (n : ℕ) → is_number n ≡ true → (more : List ℕ) → cut 32 (decimal n ++ 32 ∷ more) ≡ Some (decimal n, more)
number_ahead n g more = cut_at 32 (decimal n) more (lacks_lower 48 57 32 (omega arith) (decimal n) (number_within n g))

cut_none : (c : ℕ) (w : List ℕ) → lacks c w ≡ true → cut c w ≡ None
cut_none c [] l = refl
cut_none c (b ∷ w) l =
    let k = and_parts (not (b == c)) (lacks c w) l in
    let own : Option (List ℕ × List ℕ) = Some ([], w) in
    skipped (b == c) own (option_map (λ s. (b ∷ s.0, s.1)) (cut c w)) (negated (b == c) k.0) ∙ ap (option_map (λ s. (b ∷ s.0, s.1))) (cut_none c w k.1)

cert_end_read : (c : Option Cert) → is_cert c ≡ true → read_cert_end (cert_end c) ≡ Some c
cert_end_read None g = refl
cert_end_read (Some c) g = ap (option_and_then (λ more. option_map Some (read_cert more))) (behind_at (32 ∷ []) (cert_text c)) ∙ ap (option_map Some) (cert_read c g)

-- a text up to a space, and the certificate behind it, or none
named_cert : (w : List ℕ) → lacks 32 w ≡ true → (c : Option Cert) → is_cert c ≡ true → with_cert (w ++ cert_end c) (cut 32 (w ++ cert_end c)) ≡ Some (w, c)
named_cert w l None g = ap (λ v. with_cert v (cut 32 v)) (append-nil w) ∙ ap (with_cert w) (cut_none 32 w l)
named_cert w l (Some c) g = ap (with_cert (w ++ 32 ∷ cert_text c)) (cut_at 32 w (cert_text c) l) ∙ ap (option_map (λ d. (w, Some d))) (cert_read c g)

value_cert : (w : List ℕ) → stays Outside 32 w ≡ true → (c : Option Cert) → is_cert c ≡ true → with_cert (w ++ cert_end c) (cut_outside 32 (w ++ cert_end c)) ≡ Some (w, c)
value_cert w l None g = ap (λ v. with_cert v (cut_outside 32 v)) (append-nil w) ∙ ap (with_cert w) (not_cut Outside 32 w l)
value_cert w l (Some c) g = ap (with_cert (w ++ 32 ∷ cert_text c)) (cut_outside_at Outside 32 w (cert_text c) l) ∙ ap (option_map (λ d. (w, Some d))) (cert_read c g)

cert_inline : (c : Option Cert) → is_cert c ≡ true → list_all is_inline (cert_end c) ≡ true
cert_inline None g = refl
cert_inline (Some c) g = lacks_lower 33 124 10 (omega arith) (cert_text c) (cert_within c g)

-- ---- the next numbers

pub next_read : (x : Lines) → is_number x.next_thread ≡ true → is_number x.next_mailbox ≡ true → is_number x.next_message ≡ true → read_next (next_text x) ≡ Some (lines_with x.next_thread x.next_mailbox x.next_message)
next_read x t b m =
    let T = decimal x.next_thread in
    let B = decimal x.next_mailbox in
    let M = decimal x.next_message in
    ap (option_and_then (λ more. option_and_then next_threads (cut 32 more))) (behind_at (codes "next ") (T ++ 32 ∷ (B ++ 32 ∷ M)))
    ∙ ap (option_and_then next_threads) (number_ahead x.next_thread t (B ++ 32 ∷ M))
    ∙ ap (option_and_then (λ n. option_and_then (next_mailboxes n) (cut 32 (B ++ 32 ∷ M)))) (number_read x.next_thread t)
    ∙ ap (option_and_then (next_mailboxes x.next_thread)) (number_ahead x.next_mailbox b M)
    ∙ ap (option_and_then (λ n. next_messages x.next_thread n M)) (number_read x.next_mailbox b)
    ∙ ap (option_map (lines_with x.next_thread x.next_mailbox)) (number_read x.next_message m)

pub next_inline : (x : Lines) → is_number x.next_thread ≡ true → is_number x.next_mailbox ≡ true → is_number x.next_message ≡ true → list_all is_inline (next_text x) ≡ true
next_inline x t b m =
    let B = decimal x.next_mailbox in
    let M = decimal x.next_message in
    all_append is_inline (decimal x.next_thread) (32 ∷ (B ++ 32 ∷ M)) (number_inline x.next_thread t)
    (all_append is_inline B (32 ∷ M) (number_inline x.next_mailbox b) (number_inline x.next_message m))

-- ---- nodes and the values of variables

node_read : (p : Program) (n : ℕ) → is_node p n ≡ true → read_node p (decimal n) ≡ Some n
node_read p n g =
    let k = and_parts (nat_lt n (length p.nodes)) (is_number n) g in
    ap (option_and_then (node_number p)) (number_read n k.1) ∙ passed (nat_lt n (length p.nodes)) (Some n) None k.0

bound_read : (env : Env) (c : Option Cert) → is_env env ≡ true → is_cert c ≡ true → read_bound (123 ∷ (env_text env ++ 125 ∷ cert_end c)) ≡ Some (env, c)
bound_read env c g h =
    ap (option_and_then (λ more. option_and_then bound_in (cut_outside 125 more))) (behind_at (123 ∷ []) (env_text env ++ 125 ∷ cert_end c))
    ∙ ap (option_and_then bound_in) (cut_outside_at Outside 125 (env_text env) (cert_end c) (env_stays env g))
    ∙ ap (option_and_then (λ e. option_map (λ d. (e, d)) (read_cert_end (cert_end c)))) (env_read env g)
    ∙ ap (option_map (λ d. (env, d))) (cert_end_read c h)

bound_inline : (env : Env) (c : Option Cert) → is_env env ≡ true → is_cert c ≡ true → list_all is_inline (123 ∷ (env_text env ++ 125 ∷ cert_end c)) ≡ true
bound_inline env c g h = all_append is_inline (env_text env) (125 ∷ cert_end c) (env_inline env g) (cert_inline c h)

-- ---- threads

control_read : (p : Program) (s : Control) (c : Option Cert) → is_control p s ≡ true → is_cert c ≡ true → read_control p (control_text s ++ cert_end c) ≡ Some (s, c)
control_read p (Running n env) c g h =
    let k = and_parts (is_node p n) (is_env env) g in
    let D = decimal n in
    let E = env_text env in
    let B = 123 ∷ (E ++ 125 ∷ cert_end c) in
    let whole : control_text (Running n env) ++ cert_end c ≡ codes "node " ++ (D ++ 32 ∷ B) =
    ap (λ w. codes "node " ++ w) (append_assoc D (32 ∷ 123 ∷ (E ++ 125 ∷ [])) (cert_end c) ∙ ap (λ w. D ++ 32 ∷ 123 ∷ w) (append_assoc E (125 ∷ []) (cert_end c))) in
    let number = (and_parts (nat_lt n (length p.nodes)) (is_number n) k.0).1 in
    ap (read_control p) whole
    ∙ ap (control_by p (codes "node " ++ (D ++ 32 ∷ B))) (behind_at (codes "node ") (D ++ 32 ∷ B))
    ∙ ap (option_and_then (running_of p)) (number_ahead n number B)
    ∙ ap (option_and_then (λ m. option_map (running_at m) (read_bound B))) (node_read p n k.0)
    ∙ ap (option_map (running_at n)) (bound_read env c k.1 h)
control_read p (Returned v) c g h =
    let V = value_text v in
    ap (option_and_then read_returned) (behind_at (codes "value ") (V ++ cert_end c))
    ∙ ap (option_and_then returned_of) (value_cert V (value_stays Space v g) c h)
    ∙ ap (option_map (λ u. (Returned u, c))) (value_read v g)

control_inline : (p : Program) (s : Control) → is_control p s ≡ true → list_all is_inline (control_text s) ≡ true
control_inline p (Running n env) g =
    let k = and_parts (is_node p n) (is_env env) g in
    let number = (and_parts (nat_lt n (length p.nodes)) (is_number n) k.0).1 in
    all_append is_inline (decimal n) (32 ∷ 123 ∷ (env_text env ++ 125 ∷ [])) (number_inline n number) (bound_inline env None k.1 refl)
control_inline p (Returned v) g = value_inline v g

-- a thread without its frames
pub record ThreadTaken (p : Program) (t : ThreadLine) : Type 0 where
  pub number : is_number t.number ≡ true
  pub control : is_control p t.control ≡ true
  pub cert : is_cert t.cert ≡ true
  pub frames : list_all (is_frame_line p) t.frames ≡ true

pub thread_parts : (p : Program) (t : ThreadLine) → is_thread_line p t ≡ true → ThreadTaken p t
thread_parts p t g =
    let a = and_parts (is_number t.number) (is_control p t.control && (is_cert t.cert && list_all (is_frame_line p) t.frames)) g in
    let b = and_parts (is_control p t.control) (is_cert t.cert && list_all (is_frame_line p) t.frames) a.1 in
    let c = and_parts (is_cert t.cert) (list_all (is_frame_line p) t.frames) b.1 in
    record { number = a.0; control = b.0; cert = c.0; frames = c.1 }

pub thread_read : (p : Program) (t : ThreadLine) → ThreadTaken p t → read_thread p (decimal t.number ++ 32 ∷ (control_text t.control ++ cert_end t.cert)) ≡ Some (thread_with t.number (t.control, t.cert))
thread_read p t g =
    let C = control_text t.control ++ cert_end t.cert in
    ap (option_and_then (thread_of p)) (number_ahead t.number g.number C)
    ∙ ap (option_and_then (λ n. option_map (thread_with n) (read_control p C))) (number_read t.number g.number)
    ∙ ap (option_map (thread_with t.number)) (control_read p t.control t.cert g.control g.cert)

pub thread_inline : (p : Program) (t : ThreadLine) → ThreadTaken p t → list_all is_inline (thread_text t) ≡ true
thread_inline p t g =
    all_append is_inline (decimal t.number) (32 ∷ (control_text t.control ++ cert_end t.cert)) (number_inline t.number g.number)
    (all_append is_inline (control_text t.control) (cert_end t.cert) (control_inline p t.control g.control) (cert_inline t.cert g.cert))

-- ---- frames

name_read : (x : Option ℕ) → is_name x ≡ true → read_name (name_text x) ≡ Some x
name_read None g = refl
name_read (Some x) g = ap (option_and_then (λ more. option_map Some (read_number more))) (behind_at (118 ∷ []) (decimal x)) ∙ ap (option_map Some) (number_read x g)

name_ahead : (x : Option ℕ) → is_name x ≡ true → lacks 32 (name_text x) ≡ true
name_ahead None g = refl
name_ahead (Some x) g = lacks_lower 48 57 32 (omega arith) (decimal x) (number_within x g)

name_inline : (x : Option ℕ) → is_name x ≡ true → list_all is_inline (name_text x) ≡ true
name_inline None g = refl
name_inline (Some x) g = number_inline x g

record FrameTaken (p : Program) (f : FrameLine) : Type 0 where
  name : is_name f.frame.var ≡ true
  body : is_node p f.frame.body ≡ true
  env : is_env f.frame.env ≡ true
  cert : is_cert f.cert ≡ true
  number : is_number f.frame.body ≡ true

frame_parts : (p : Program) (f : FrameLine) → is_frame_line p f ≡ true → FrameTaken p f
frame_parts p f g =
    let a = and_parts (is_name f.frame.var) (is_node p f.frame.body && (is_env f.frame.env && is_cert f.cert)) g in
    let b = and_parts (is_node p f.frame.body) (is_env f.frame.env && is_cert f.cert) a.1 in
    let c = and_parts (is_env f.frame.env) (is_cert f.cert) b.1 in
    record { name = a.0; body = b.0; env = c.0; cert = c.1; number = (and_parts (nat_lt f.frame.body (length p.nodes)) (is_number f.frame.body) b.0).1 }

pub frame_read : (p : Program) (f : FrameLine) → is_frame_line p f ≡ true → read_frame p (name_text f.frame.var ++ 32 ∷ (decimal f.frame.body ++ 32 ∷ 123 ∷ (env_text f.frame.env ++ 125 ∷ cert_end f.cert))) ≡ Some f
frame_read p f h =
    let g = frame_parts p f h in
    let X = name_text f.frame.var in
    let D = decimal f.frame.body in
    let B = 123 ∷ (env_text f.frame.env ++ 125 ∷ cert_end f.cert) in
    ap (option_and_then (frame_of p)) (cut_at 32 X (D ++ 32 ∷ B) (name_ahead f.frame.var g.name))
    ∙ ap (option_and_then (λ x. option_and_then (frame_in p x) (cut 32 (D ++ 32 ∷ B)))) (name_read f.frame.var g.name)
    ∙ ap (option_and_then (frame_in p f.frame.var)) (number_ahead f.frame.body g.number B)
    ∙ ap (option_and_then (λ n. option_map (frame_at f.frame.var n) (read_bound B))) (node_read p f.frame.body g.body)
    ∙ ap (option_map (frame_at f.frame.var f.frame.body)) (bound_read f.frame.env f.cert g.env g.cert)

pub frame_inline : (p : Program) (f : FrameLine) → is_frame_line p f ≡ true → list_all is_inline (frame_text f) ≡ true
frame_inline p f h =
    let g = frame_parts p f h in
    let B = 123 ∷ (env_text f.frame.env ++ 125 ∷ cert_end f.cert) in
    all_append is_inline (name_text f.frame.var) (32 ∷ (decimal f.frame.body ++ 32 ∷ B)) (name_inline f.frame.var g.name)
    (all_append is_inline (decimal f.frame.body) (32 ∷ B) (number_inline f.frame.body g.number) (bound_inline f.frame.env f.cert g.env g.cert))

-- ---- mailboxes and messages

-- a name that is seen to be one has no bracket
no_bracket : (w : List ℕ) → is_plain_name w ≡ true → lacks 40 w ≡ true
no_bracket [] h = refl
no_bracket (b ∷ w) h =
    all_weaker (λ c. not (is_mark c)) (λ c. not (c == 40)) by (b ∷ w) (and_parts (not (b == 48 || (b == 49 || b == 36))) (list_all (λ c. not (is_mark c)) (b ∷ w)) h).1
  where
    by : (c : ℕ) → not (is_mark c) ≡ true → not (c == 40) ≡ true
    by c m = first (c == 40) (c == 41 || (c == 42 || (c == 46 || c == 32))) m
      where
        first : (s t : Bool) → not (s || t) ≡ true → not s ≡ true
        first true t e = e
        first false t e = refl

module _ (p : Program) (n : NamesFit p) where
  record MailboxTaken (m : MailboxLine) : Type 0 where
    number : is_number m.number ≡ true
    there : m.interface < length p.interfaces
    cert : is_cert m.cert ≡ true

  mailbox_parts : (m : MailboxLine) → is_mailbox_line p m ≡ true → MailboxTaken m
  mailbox_parts m g =
      let a = and_parts (is_number m.number) (nat_lt m.interface (length p.interfaces) && is_cert m.cert) g in
      let b = and_parts (nat_lt m.interface (length p.interfaces)) (is_cert m.cert) a.1 in
      record { number = a.0; there = ltb-true m.interface (length p.interfaces) b.0; cert = b.1 }

  pub mailbox_read : (m : MailboxLine) → is_mailbox_line p m ≡ true → read_mailbox p (decimal m.number ++ 32 ∷ (interface_name p m.interface ++ cert_end m.cert)) ≡ Some m
  mailbox_read m h =
      let g = mailbox_parts m h in
      let i = m.interface in
      let X = interface_name p i in
      let R = X ++ cert_end m.cert in
      ap (option_and_then (mailbox_of p)) (number_ahead m.number g.number R)
      ∙ ap (option_and_then (λ k. option_and_then (mailbox_named p k) (with_cert R (cut 32 R)))) (number_read m.number g.number)
      ∙ ap (option_and_then (mailbox_named p m.number)) (named_cert X (apart_space X (n.apart i g.there)) m.cert g.cert)
      ∙ ap (option_map (mailbox_with m.number m.cert)) (n.found_at i g.there)

  pub mailbox_inline : (m : MailboxLine) → is_mailbox_line p m ≡ true → list_all is_inline (mailbox_text p m) ≡ true
  mailbox_inline m h =
      let g = mailbox_parts m h in
      let X = interface_name p m.interface in
      all_append is_inline (decimal m.number) (32 ∷ (X ++ cert_end m.cert)) (number_inline m.number g.number)
      (all_append is_inline X (cert_end m.cert) (inner_newline X (apart_inner X (n.apart m.interface g.there))) (cert_inline m.cert g.cert))

  -- a tag's name before a bracket, and the tag that is found by it
  record TagTaken (o : Option ℕ) (t : ℕ) : Type 0 where
    bracket : lacks 40 (tag_name p o t) ≡ true
    newline : list_all is_inline (tag_name p o t) ≡ true
    found : option_and_then (tag_of p (tag_name p o t)) o ≡ Some t

  tag_parts : (o : Option ℕ) (t : ℕ) → has_tag p o t ≡ true → TagTaken o t
  tag_parts None t g = absurd cc
  tag_parts (Some i) t g =
      let k = and_parts (nat_lt t (length (tag_names p i))) (nat_lt t 256) g in
      let l = ltb-true t (length (tag_names p i)) k.0 in
      let X = slice_index_or (tag_names p i) t [] in
      record {
        bracket = no_bracket X ((n.tags i).plain t l);
        newline = inner_newline X (name_inner (tag_names p i) t (n.inner i));
        found = ap (option_and_then tag_number) ((n.tags i).found t l) ∙ passed (nat_lt t 256) (Some t) None k.1;
      }

  record MessageTaken (ms : List MailboxLine) (m : Message) : Type 0 where
    number : is_number m.number ≡ true
    mailbox : is_number m.mailbox ≡ true
    tag : has_tag p (interface_in ms m.mailbox) m.tag ≡ true
    values : list_all is_value m.values ≡ true

  message_parts : (ms : List MailboxLine) (m : Message) → is_message_line p ms m ≡ true → MessageTaken ms m
  message_parts ms m g =
      let a = and_parts (is_number m.number) (is_number m.mailbox && (has_tag p (interface_in ms m.mailbox) m.tag && list_all is_value m.values)) g in
      let b = and_parts (is_number m.mailbox) (has_tag p (interface_in ms m.mailbox) m.tag && list_all is_value m.values) a.1 in
      let c = and_parts (has_tag p (interface_in ms m.mailbox) m.tag) (list_all is_value m.values) b.1 in
      record { number = a.0; mailbox = b.0; tag = c.0; values = c.1 }

  pub message_read : (ms : List MailboxLine) (m : Message) → is_message_line p ms m ≡ true → read_message p ms (decimal m.number ++ 32 ∷ (decimal m.mailbox ++ 32 ∷ (tag_name p (interface_in ms m.mailbox) m.tag ++ 40 ∷ (values_text m.values ++ 41 ∷ [])))) ≡ Some m
  message_read ms m h =
      let g = message_parts ms m h in
      let o = interface_in ms m.mailbox in
      let t = tag_parts o m.tag g.tag in
      let X = tag_name p o m.tag in
      let V = values_text m.values in
      let P = V ++ 41 ∷ [] in
      let R = X ++ 40 ∷ P in
      let B = decimal m.mailbox in
      ap (option_and_then (message_of p ms)) (number_ahead m.number g.number (B ++ 32 ∷ R))
      ∙ ap (option_and_then (λ k. option_and_then (message_in p ms k) (cut 32 (B ++ 32 ∷ R)))) (number_read m.number g.number)
      ∙ ap (option_and_then (message_in p ms m.number)) (number_ahead m.mailbox g.mailbox R)
      ∙ ap (option_and_then (λ b. option_and_then (message_tagged p ms m.number b) (cut 40 R))) (number_read m.mailbox g.mailbox)
      ∙ ap (option_and_then (message_tagged p ms m.number m.mailbox)) (cut_at 40 X P t.bracket)
      ∙ ap (option_and_then (λ u. message_with m.number m.mailbox u P)) t.found
      ∙ ap (λ w. option_map (λ vs. record { number = m.number; mailbox = m.mailbox; tag = m.tag; values = vs }) (option_and_then read_values w)) (before_at (41 ∷ []) V)
      ∙ ap (option_map (λ vs. record { number = m.number; mailbox = m.mailbox; tag = m.tag; values = vs })) (values_read m.values g.values)

  pub message_inline : (ms : List MailboxLine) (m : Message) → is_message_line p ms m ≡ true → list_all is_inline (message_text p ms m) ≡ true
  message_inline ms m h =
      let g = message_parts ms m h in
      let o = interface_in ms m.mailbox in
      let t = tag_parts o m.tag g.tag in
      let X = tag_name p o m.tag in
      let V = values_text m.values in
      let P = V ++ 41 ∷ [] in
      all_append is_inline (decimal m.number) (32 ∷ (decimal m.mailbox ++ 32 ∷ (X ++ 40 ∷ P))) (number_inline m.number g.number)
      (all_append is_inline (decimal m.mailbox) (32 ∷ (X ++ 40 ∷ P)) (number_inline m.mailbox g.mailbox)
      (all_append is_inline X (40 ∷ P) t.newline (all_append is_inline V (41 ∷ []) (values_inline m.values g.values) refl)))
