-- What a certificate of a view says is what the view's pool says of it.
use Rattle.std.proofs.Common.{◌≡◌, ℕ}
use Rattle.chain.specs.CertificateViews.{IsAt, certificate_pool, said}
use Rattle.chain.specs.Views.{view_pool}
use Rattle.chain.specs.declared.certificate.CertificateView.{CertificateView}
use Rattle.chain.specs.declared.view.PoolView.{PoolView}

pub said_at : (v : PoolView) (i : ℕ) (m : CertificateView) → IsAt v i m → said m ≡ (view_pool v).certificate i
said_at v i m e = λ j. (view_pool (e.0 j)).certificate (e.1 j)

pub anchor_at : (v : PoolView) (i : ℕ) (m : CertificateView) → IsAt v i m → (certificate_pool m).anchor m.index ≡ (view_pool v).anchor i
anchor_at v i m e = λ j. (view_pool (e.0 j)).anchor (e.1 j)
