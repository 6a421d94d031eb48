-- A checkpoint whose own lists are ones that a reader takes is one.
use Rattle.std.proofs.Common.{◌≡◌, ℕ, true, List, [], ◌∷◌, length, map, refl, ap, ◌∙◌, arith, if◌then◌else◌}
use Rattle.std.specs.Prelude.{Option, Some, nat_eq, nat_lt, ◌&&◌}
use Rattle.std.specs.List.{list_all}
use Rattle.std.proofs.lemmas.Bool.{and_parts, and_from}
use Rattle.pat_semantics_spec.specs.Programs.{Program}
use Rattle.pat_semantics_spec.specs.Configs.{Frame, Thread, Message}
use Rattle.pat_inclusion_spec.specs.Certificates.{Cert}
use Rattle.pat_texts_spec.specs.Numbers.{is_number}
use Rattle.pat_checkpoint_spec.specs.Checkpoints.{PartCerts, Checkpoint, PartsAlign}
use Rattle.pat_checkpoint_spec.specs.text.ValueText.{is_value}
use Rattle.pat_checkpoint_spec.specs.text.Lines.{MailboxLine, mailbox_lines, frame_lines, thread_lines}
use Rattle.pat_checkpoint_spec.specs.text.CheckpointText.{interface_in}
use Rattle.pat_checkpoint_laws.specs.text.Readable.{is_env, is_cert, is_node, is_mailbox_line, has_tag, is_message_line, is_control, is_name, is_frame_line, is_thread_line, ascend, IsReadable, interface_among, is_message, is_frame, is_thread, are_certs, IsPlain}
use Rattle.pat_checkpoint_laws.proofs.Conversions.{mailboxes_made}

mailbox_lines_plain : (p : Program) (ns is : List ℕ) (cs : List (Option Cert)) → list_all is_number ns ≡ true → list_all (λ i. nat_lt i (length p.interfaces)) is ≡ true → list_all is_cert cs ≡ true → list_all (is_mailbox_line p) (mailbox_lines ns is cs) ≡ true
mailbox_lines_plain p [] is cs a b c = refl
mailbox_lines_plain p (n ∷ ns) [] cs a b c = refl
mailbox_lines_plain p (n ∷ ns) (i ∷ is) [] a b c = refl
mailbox_lines_plain p (n ∷ ns) (i ∷ is) (k ∷ cs) a b c =
    let there = nat_lt i (length p.interfaces) in
    let x = and_parts (is_number n) (list_all is_number ns) a in
    let y = and_parts there (list_all (λ i. nat_lt i (length p.interfaces)) is) b in
    let z = and_parts (is_cert k) (list_all is_cert cs) c in
    and_from (is_number n && (there && is_cert k)) (list_all (is_mailbox_line p) (mailbox_lines ns is cs)) (and_from (is_number n) (there && is_cert k) x.0 (and_from there (is_cert k) y.0 z.0)) (mailbox_lines_plain p ns is cs x.1 y.1 z.1)

-- the interface is found by lines as it is by places
interface_same : (ns is : List ℕ) (cs : List (Option Cert)) → length cs ≡ length ns → (b : ℕ) → interface_in (mailbox_lines ns is cs) b ≡ interface_among ns is b
interface_same [] is cs same b = refl
interface_same (n ∷ ns) [] cs same b = refl
interface_same (n ∷ ns) (i ∷ is) [] same b = absurd (omega (arith, same))
interface_same (n ∷ ns) (i ∷ is) (c ∷ cs) same b = ap (λ o. if nat_eq n b then Some i else o) (interface_same ns is cs (omega (arith, same)) b)

messages_plain : (p : Program) (ms : List MailboxLine) (ns is : List ℕ) → ((b : ℕ) → interface_in ms b ≡ interface_among ns is b) → (es : List Message) → list_all (is_message p ns is) es ≡ true → list_all (is_message_line p ms) es ≡ true
messages_plain p ms ns is same [] h = refl
messages_plain p ms ns is same (m ∷ es) h =
    let k = and_parts (is_message p ns is m) (list_all (is_message p ns is) es) h in
    let own : is_message_line p ms m ≡ is_message p ns is m = ap (λ o. is_number m.number && (is_number m.mailbox && (has_tag p o m.tag && list_all is_value m.values))) (same m.mailbox) in
    and_from (is_message_line p ms m) (list_all (is_message_line p ms) es) (own ∙ k.0) (messages_plain p ms ns is same es k.1)

frames_plain : (p : Program) (fs : List Frame) (cs : List (Option Cert)) → list_all (is_frame p) fs ≡ true → list_all is_cert cs ≡ true → list_all (is_frame_line p) (frame_lines fs cs) ≡ true
frames_plain p [] cs a b = refl
frames_plain p (f ∷ fs) [] a b = refl
frames_plain p (f ∷ fs) (c ∷ cs) a b =
    let x = and_parts (is_frame p f) (list_all (is_frame p) fs) a in
    let y = and_parts (is_cert c) (list_all is_cert cs) b in
    let u = and_parts (is_name f.var) (is_node p f.body && is_env f.env) x.0 in
    let v = and_parts (is_node p f.body) (is_env f.env) u.1 in
    and_from (is_name f.var && (is_node p f.body && (is_env f.env && is_cert c))) (list_all (is_frame_line p) (frame_lines fs cs))
    (and_from (is_name f.var) (is_node p f.body && (is_env f.env && is_cert c)) u.0 (and_from (is_node p f.body) (is_env f.env && is_cert c) v.0 (and_from (is_env f.env) (is_cert c) v.1 y.0)))
    (frames_plain p fs cs x.1 y.1)

threads_plain : (p : Program) (es : List (ℕ × Thread)) (ks : List PartCerts) → list_all (is_thread p) es ≡ true → list_all are_certs ks ≡ true → list_all (is_thread_line p) (thread_lines es ks) ≡ true
threads_plain p [] ks a b = refl
threads_plain p (e ∷ es) [] a b = refl
threads_plain p (e ∷ es) (k ∷ ks) a b =
    let x = and_parts (is_thread p e) (list_all (is_thread p) es) a in
    let y = and_parts (are_certs k) (list_all are_certs ks) b in
    let u = and_parts (is_number e.0) (is_control p e.1.control && list_all (is_frame p) e.1.frames) x.0 in
    let v = and_parts (is_control p e.1.control) (list_all (is_frame p) e.1.frames) u.1 in
    let w = and_parts (is_cert k.control) (list_all is_cert k.frames) y.0 in
    let F = list_all (is_frame_line p) (frame_lines e.1.frames k.frames) in
    and_from (is_number e.0 && (is_control p e.1.control && (is_cert k.control && F))) (list_all (is_thread_line p) (thread_lines es ks))
    (and_from (is_number e.0) (is_control p e.1.control && (is_cert k.control && F)) u.0 (and_from (is_control p e.1.control) (is_cert k.control && F) v.0 (and_from (is_cert k.control) F w.0 (frames_plain p e.1.frames k.frames v.1 w.1))))
    (threads_plain p es ks x.1 y.1)

numbers_same : (es : List (ℕ × Thread)) (ks : List PartCerts) → PartsAlign es ks → map (λ t. t.number) (thread_lines es ks) ≡ map (λ e. e.0) es
numbers_same [] ks a = refl
numbers_same (e ∷ es) [] a = absurd a
numbers_same (e ∷ es) (k ∷ ks) a = ap (λ l. e.0 ∷ l) (numbers_same es ks a.1)

pub plain_is_readable : (p : Program) (x : Checkpoint) → IsPlain p x → IsReadable p x
plain_is_readable p x g =
    let c = x.config in
    let ms = mailbox_lines c.live x.interfaces x.mailbox_certs in
    let m = mailboxes_made c.live x.interfaces x.mailbox_certs g.aligned.interfaces g.aligned.mailboxes in
    record {
      aligned = g.aligned;
      lines = record {
        next_thread = g.next_thread;
        next_mailbox = g.next_mailbox;
        next_message = g.next_message;
        mailboxes_ascend = ap ascend m.numbers ∙ g.live_ascends;
        mailboxes = mailbox_lines_plain p c.live x.interfaces x.mailbox_certs g.live g.interfaces g.mailbox_certs;
        messages_ascend = g.messages_ascend;
        messages = messages_plain p ms c.live x.interfaces (interface_same c.live x.interfaces x.mailbox_certs g.aligned.mailboxes) c.messages g.messages;
        threads_ascend = ap ascend (numbers_same c.threads x.part_certs g.aligned.parts) ∙ g.threads_ascend;
        threads = threads_plain p c.threads x.part_certs g.threads g.part_certs;
      };
    }
