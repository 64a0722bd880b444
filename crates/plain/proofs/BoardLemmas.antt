-- Texts of all names by a board, which are those by its history.
use Rattle.std.proofs.Common.{ℕ, ◌≡◌, ◌+◌, ◌<◌, ◌≤◌, List, [], ◌∷◌, ◌++◌, length, refl, ap, ◌∙◌, arith}
use Rattle.std.specs.Prelude.{codes, decimal, flat_map}
use Rattle.desk_core.specs.declared.entry.Entry.{Entry}
use Rattle.desk_core.specs.Board.{board_of, entries_in, status_in}
use Rattle.desk_core.specs.Status.{status_at}
use Rattle.desk_core.proofs.ReadingLemmas.{read_entries, read_on_board}
use Rattle.plain.specs.declared.figures.Figures.{Figures}
use Rattle.plain.specs.Metrics.{family, figures_text, history_metrics, label_of, level, metric_text, metrics_text, status_metrics, status_sample}
use Rattle.plain.specs.Services.{separator, service_text, services_text, status_word}
use Rattle.json.specs.Print.{quoted}
use Rattle.plain.specs.Slots.{texts_from}

-- the texts of sixteen names are the same where each is
texts_same : (f g : ℕ → List ℕ → List ℕ) → ((i : ℕ) (name : List ℕ) → i < 16 → f i name ≡ g i name)
    → (slot : ℕ) (names : List (List ℕ)) → slot + length names ≤ 16 → texts_from f slot names ≡ texts_from g slot names
texts_same f g same slot [] few = refl
texts_same f g same slot (name ∷ names) few =
    ap (λ first. first ++ texts_from f (slot + 1) names) (same slot name (omega (arith, few)))
    ∙ ap (λ rest. g slot name ++ rest) (texts_same f g same (slot + 1) names (omega (arith, few)))

-- all services
pub services_same : (seen : List Entry) (board : ℕ) (names : List (List ℕ)) → board ≡ board_of seen → length names ≤ 16
    → texts_from (service_text (status_in board)) 0 names ≡ texts_from (service_text (status_at seen)) 0 names
services_same seen board names is few =
    texts_same (service_text (status_in board)) (service_text (status_at seen))
    (λ i name within. ap
    (λ status. separator i ++ codes "{\"name\": " ++ quoted name ++ codes ", \"status\": \"" ++ status_word status ++ codes "\"}")
    (read_on_board seen board i is within))
    0 names (omega (arith, few))

-- all samples of a status
pub samples_same : (seen : List Entry) (board : ℕ) (names : List (List ℕ)) → board ≡ board_of seen → length names ≤ 16
    → texts_from (status_sample (status_in board)) 0 names ≡ texts_from (status_sample (status_at seen)) 0 names
samples_same seen board names is few =
    texts_same (status_sample (status_in board)) (status_sample (status_at seen))
    (λ i name within. ap
    (λ status. codes "healthd_service_status{service=\"" ++ label_of name ++ codes "\"} " ++ level status ++ codes "\n")
    (read_on_board seen board i is within))
    0 names (omega (arith, few))

-- the text of all services
pub services_whole : (seen : List Entry) (board : ℕ) (names : List (List ℕ)) → board ≡ board_of seen → length names ≤ 16
    → services_text (entries_in board) (status_in board) names ≡ services_text (length seen) (status_at seen) names
services_whole seen board names is few =
    ap
    (λ entries. codes "{\"entries\": " ++ decimal entries ++ codes ", \"services\": [" ++ texts_from (service_text (status_in board)) 0 names ++ codes "]}\n")
    (read_entries seen board is)
    ∙ ap
    (λ texts. codes "{\"entries\": " ++ decimal (length seen) ++ codes ", \"services\": [" ++ texts ++ codes "]}\n")
    (services_same seen board names is few)

-- the text of all metrics
pub metrics_whole : (seen : List Entry) (board : ℕ) (names : List (List ℕ)) (figures : Figures) → board ≡ board_of seen → length names ≤ 16
    → metrics_text (entries_in board) (status_in board) names figures ≡ metrics_text (length seen) (status_at seen) names figures
metrics_whole seen board names figures is few =
    ap
    (λ entries. status_metrics (status_in board) names ++ flat_map metric_text (history_metrics entries figures) ++ figures_text names figures)
    (read_entries seen board is)
    ∙ ap
    (λ texts. family (codes "healthd_service_status") (codes "1 if the service is serving, 0 if not, -1 if unknown or absent.") (codes "gauge") ++ texts
    ++ flat_map metric_text (history_metrics (length seen) figures) ++ figures_text names figures)
    (samples_same seen board names is few)
