-- The program reads `max_input` bytes and leaves the rest: that changes no answer. Where there are more, the module is too long (1), or it was read, and then bytes follow the longest request (12).
use Prim.Native.Nat.{ℕ, zero, suc, ◌+◌, ◌-◌, ◌<◌, ◌≤◌}
use native.Mathlib.Omega.{arith}
use native.Mathlib.Nat.{eq-zero-or-pos}
use mathlib.Core.Path.{◌≡◌, refl, sym, ap, ◌∙◌}
use mathlib.Core.Bool.{Bool, true, false}
use mathlib.Core.Logic.{⊎_elim}
use mathlib.Core.List.{List, [], ◌∷◌}
use lib.Dec.{ltb}
use lib.ListN.{length, take, drop, length-drop}
use lib.Seq.{length-take-le, take_all, take-take, get_or-drop}
use borrow.Author.Tests.{lt-ltb, ltb-false, ltb-true}
use Rattle.field.specs.Field.{Bytes}
use Rattle.field.specs.Limits.{max_bytes, min_report}
use Rattle.module.specs.Module.{Module}
use Rattle.module.specs.File.{Answer, accepted, refused, read_module}
use Rattle.request.specs.Request.{read_request}
use Rattle.request.proofs.Frame.{overlong}
use Rattle.lines.specs.Text.{refused_text}
use Rattle.report_text.specs.Split.{module_bytes, module_in, request_in}
use Rattle.report_text.specs.Input.{request_text, module_text, report_input, max_input}
use Rattle.report_text.proofs.Cut.{within, kept, lost}

-- a module of more bytes than are allowed
too_long : (bytes : List ℕ) → max_bytes < length bytes → read_module bytes ≡ refused 1
unfolding read_module
too_long bytes h = rw (lt-ltb max_bytes (length bytes) h, read_module)

was_short : (bytes : List ℕ) (m : Module) → read_module bytes ≡ accepted m → (r : Bool) → ltb max_bytes (length bytes) ≡ r → length bytes ≤ max_bytes
was_short bytes m e false b = ltb-false max_bytes (length bytes) b
was_short bytes m e true b =
    let no = too_long bytes (ltb-true max_bytes (length bytes) b) in
    let z : ◌≡◌ {A = ℕ} 0 1 = cc in
    omega arith

-- no request is longer than its header can say
overfull : (m : Module) (bytes : List ℕ) → Bytes bytes → 4 + 65535 < length bytes → request_text m (read_request m min_report bytes) ≡ refused_text 12
unfolding request_text
overfull m bytes h l = ap (request_text m) (overlong m min_report bytes h l)

-- parts of bytes are bytes
bytes_taken : (l : List ℕ) (n : ℕ) → Bytes l → Bytes (take n l)
bytes_taken l zero h k = omega arith
bytes_taken [] (suc n) h k = omega arith
bytes_taken (b ∷ l) (suc n) h zero = h 0
bytes_taken (b ∷ l) (suc n) h (suc k) = bytes_taken l n (λ j. h (suc j)) k

bytes_left : (l : List ℕ) (n : ℕ) → Bytes l → Bytes (drop n l)
bytes_left l n h k = rw (get_or-drop n l k 0) (h (n + k))

-- there are more than n bytes
module _ (s : List ℕ) (bytes : Bytes s) (n : ℕ) (long : max_input ≤ n) (more : n < length s) where
  module_long : length (module_in s) ≡ module_bytes s 0
  module_long = length-take-le (module_bytes s 0) s (within s 0)

  -- the header of the request is among the first n
  module _ (whole : module_bytes s 0 + 4 ≤ n) where
    same_module : module_in (take n s) ≡ module_in s
    same_module = rw (kept s 0 n whole) (take-take (module_bytes s 0) n s (omega arith))

    both : (a : Answer) → read_module (module_in s) ≡ a → module_text a (request_in (take n s)) ≡ module_text a (request_in s)
    unfolding module_text
    both (refused k) e = refl
    both (accepted m) e =
        let short = was_short (module_in s) m e (ltb max_bytes (length (module_in s))) refl in
        let cut : length (take n s) ≡ n = length-take-le n s (omega arith) in
        let small = module_long in
        let left : 4 + 65535 < length (request_in (take n s)) = rw (kept s 0 n whole) (omega (arith, length-drop (module_bytes s 0) (take n s))) in
        let all : 4 + 65535 < length (request_in s) = omega (arith, length-drop (module_bytes s 0) s) in
        overfull m (request_in (take n s)) (bytes_left (take n s) (module_bytes (take n s) 0) (bytes_taken s n bytes)) left
        ∙ sym (overfull m (request_in s) (bytes_left s (module_bytes s 0) bytes) all)

    header_there : report_input (take n s) ≡ report_input s
    unfolding report_input
    header_there =
        ap (λ (l : List ℕ). module_text (read_module l) (request_in (take n s))) same_module ∙ both (read_module (module_in s)) refl

  -- it is not, and the module is too long
  header_behind : n < module_bytes s 0 + 4 → report_input (take n s) ≡ report_input s
  unfolding report_input module_text
  header_behind behind =
      let e = lost s 0 n behind (omega arith) in
      let small : length (module_in (take n s)) ≡ n = rw e (rw (take-take n n s (omega arith)) (length-take-le n s (omega arith))) in
      let large = module_long in
      rw (too_long (module_in (take n s)) (omega arith), too_long (module_in s) (omega arith))

pub longer : (s : List ℕ) → Bytes s → (n : ℕ) → max_input ≤ n → report_input (take n s) ≡ report_input s
longer s bytes n long =
    ⊎_elim
    (λ fits. ap report_input (take_all n s (omega arith)))
    (λ more.
    ⊎_elim
    (λ whole. header_there s bytes n long (omega arith) (omega arith))
    (λ behind. header_behind s bytes n long (omega arith) (omega arith))
    (eq-zero-or-pos (module_bytes s 0 + 4 - n)))
    (eq-zero-or-pos (length s - n))
