-- The sessions of an evaluation, as a contract sees them.
use Rattle.std.specs.Prelude.{ℕ, ◌+◌, ◌-◌, ◌≤◌, Bool, List, [], ◌++◌, length, Option, slice_get, position, option_map, codes, decimal, refl}
use Rattle.std.specs.Coded.{Coded, code_by, coded×, coded_list, coded_ℕ}
use Rattle.dg_bytes.specs.Same.{same_bytes}
use Rattle.dg_transcript.specs.declared.cursor.Cursor.{Cursor}
use Rattle.dg_transcript.specs.contracts.cursor.Cursor as cursor
use Rattle.dg_sessions.specs.declared.phase.Phase.{Phase}
use Rattle.dg_sessions.specs.contracts.phase.Phase as phase
use Rattle.dg_sessions.specs.declared.sessions.TheConstants.{MAX_KEPT, MAX_SESSIONS, MAX_USED}

-- a session: its place in its record, the bytes that were read and not yet taken, how many of them are kept at most, and
-- how far it has come
pub record SessionView : Type 0 where
  pub cursor : Cursor
  pub buffer : List ℕ
  pub max : ℕ
  pub phase : Phase

abbrev pub session_code : Coded SessionView
session_code =
    code_by (((Cursor × List ℕ) × ℕ) × Phase) (coded× (coded× (coded× cursor.the_row.coded (coded_list coded_ℕ)) coded_ℕ) phase.the_row.coded)
    (λ s. (((s.cursor, s.buffer), s.max), s.phase)) (λ p. record { cursor = p.0.0.0; buffer = p.0.0.1; max = p.0.1; phase = p.1 }) (λ _. refl)

-- the sessions from session 1 on, how many entries of their records are used up, and how many bytes a later session keeps
pub record SessionsView : Type 0 where
  pub all : List SessionView
  pub used : ℕ
  pub max : ℕ

abbrev pub sessions_code : Coded SessionsView
sessions_code =
    code_by ((List SessionView × ℕ) × ℕ) (coded× (coded× (coded_list session_code) coded_ℕ) coded_ℕ)
    (λ s. ((s.all, s.used), s.max)) (λ p. record { all = p.0.0; used = p.0.1; max = p.1 }) (λ _. refl)

-- the most sessions of a test, the most entries that one evaluation uses up, and the most bytes that a session keeps
abbrev pub most_sessions : ℕ
most_sessions = MAX_SESSIONS

abbrev pub most_entries : ℕ
most_entries = MAX_USED

abbrev pub most_kept : ℕ
most_kept = MAX_KEPT

-- the name of a session in scripts
abbrev pub id_of : ℕ → List ℕ
id_of n = codes "exp" ++ decimal n

-- no session, and 2,000 bytes are kept, as expect(1) says
abbrev pub no_sessions : SessionsView
no_sessions = record { all = []; used = 0; max = 2000 }

-- the session of a number, from 1 on
abbrev pub session_at : ℕ → SessionsView → Option SessionView
session_at n ss = slice_get ss.all (n - 1)

-- whether a session has a name
abbrev pub has_id : List ℕ → SessionView → Bool
has_id id s = same_bytes (id_of s.cursor.session) id

-- the number of the session of a name
abbrev pub named : List ℕ → SessionsView → Option ℕ
named id ss = option_map (λ i. i + 1) (position (has_id id) ss.all)

-- the bytes that are kept are no more than the limit, which is one byte at least
pub record Keeps (bytes : List ℕ) (max : ℕ) : Type 0 where
  pub within : length bytes ≤ max
  pub some : 1 ≤ max
  pub most : max ≤ most_kept
